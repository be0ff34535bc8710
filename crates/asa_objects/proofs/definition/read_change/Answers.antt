use Rattle.std.proofs.Common.{◌≡◌, ◌<◌, ◌≤◌, true, false, length, Result, Err, sym, subst, ap, ◌∙◌, rules, arith}
use Rattle.asa_objects_values.specs.declared.draft.Change.{Change}
use Rattle.asa_objects_values.specs.declared.faults.ObjectFault.{ObjectFault}
use Rattle.asa_objects_values.specs.declared.faults.ObjectFault.TheVariants as fault
use Rattle.asa_objects_values.specs.Definition.{lacks_value}
use Rattle.asa_objects.specs.BlockChanges.{Reads, after_change}
use Rattle.asa_objects.proofs.DefineLaws.{define-lacks, define-many, define-refused}
use Rattle.asa_objects.proofs.definition.read_change.Goals as goal

pub returns-in_err-read : goal.returns-in_err-read
returns-in_err-read c =
    let same : c.from_residual.result ≡ Err c.in_err-read.field-0.0 = search rules in
    subst (λ (r : Result Change ObjectFault). Reads c.args.table.now c.args.block.now c.args.top.now r) (sym same)
    (define-refused c.args.table.now c.args.block.now c.args.top.now c.in_err-read.field-0.0 c.in_err-read.ensures.value)

pub returns-then-lacks : goal.returns-then-lacks
returns-then-lacks c =
    let lacks : lacks_value c.args.top.now.block (after_change c.args.table.now c.args.top.now.name c.in_ok-read.read.change) ≡ true =
    sym c.in_ok-read.ensures.value.lacks ∙ c.if-lacks.true in
    define-lacks c.args.table.now c.args.block.now c.args.top.now (after_change c.args.table.now c.args.top.now.name c.in_ok-read.read.change) c.in_ok-read.ensures.value.members lacks
    ∙ ap (λ n. Err (fault.NoValue n)) (sym c.missing_column.ensures)

pub returns-then-len-gt16384 : goal.returns-then-len-gt16384
returns-then-len-gt16384 c =
    let lacks : lacks_value c.args.top.now.block (after_change c.args.table.now c.args.top.now.name c.in_ok-read.read.change) ≡ false =
    sym c.in_ok-read.ensures.value.lacks ∙ c.if-lacks.false in
    let many : 16384 < length c.args.table.now = omega (arith, c.len.ensures, c.if-len-gt16384.true) in
    define-many c.args.table.now c.args.block.now c.args.top.now (after_change c.args.table.now c.args.top.now.name c.in_ok-read.read.change) c.in_ok-read.ensures.value.members lacks many

pub returns : goal.returns
returns c =
    let lacks : lacks_value c.args.top.now.block (after_change c.args.table.now c.args.top.now.name c.in_ok-read.read.change) ≡ false =
    sym c.in_ok-read.ensures.value.lacks ∙ c.if-lacks.false in
    let few : length c.args.table.now ≤ 16384 = omega (arith, c.len.ensures, c.if-len-gt16384.false) in
    record { members = c.in_ok-read.ensures.value.members; new = c.in_ok-read.ensures.value.new; former = c.in_ok-read.ensures.value.former; has = lacks; few = few }
