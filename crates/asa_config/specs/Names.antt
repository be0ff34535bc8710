-- What a configuration knows of the names in a line, and what they stand for.
use Rattle.std.specs.Prelude.{ℕ, List}
use Rattle.asa_base.specs.Kinds.{Known}
use Rattle.asa_base.specs.declared.boxes.LineBox.{LineBox}
use Rattle.asa_ifaces.specs.Interfaces.{interface_of, address_of}
use Rattle.asa_acl.specs.Acls.{AccessLines}
use Rattle.asa_objects_values.specs.Tables.{kind_in, port_proto_in, service_range_in}
use Rattle.asa_acl_boxes.specs.Meanings.{Meanings}
use Rattle.asa_acl_boxes.specs.Boxes.{boxes_of}
use Rattle.asa_acl_table.specs.Names.{meanings_in, pairs_of_lists}
use Rattle.asa_config.specs.Settings.{Settings}

-- what the readers of lines know of names
abbrev pub known_of : Settings → Known
known_of c = record {
  kind_of = kind_in c.objects;
  interface_of = interface_of c.net;
  port_proto = port_proto_in c.objects;
  service_range = service_range_in c.objects;
  address_of = address_of c.net;
}

-- what the names of list lines stand for
abbrev pub meanings_of : Settings → Meanings
meanings_of c = meanings_in c.objects c.net.ifaces

-- the boxes of a list under a configuration
abbrev pub boxes_under : Settings → AccessLines → List LineBox
boxes_under c l = boxes_of (meanings_of c) l.lines

-- the prefix pairs of all lists of a configuration
abbrev pub pair_count : Settings → ℕ
pair_count c = pairs_of_lists (meanings_of c) c.lists
