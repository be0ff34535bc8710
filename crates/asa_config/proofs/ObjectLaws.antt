-- What a change of objects and groups leaves as it is, and what it answers.
use Rattle.std.proofs.Common.{◌≡◌, ℕ, ◌≤◌, ◌<◌, nat_le, if◌then◌else◌, Bool, List, true, false, Option, is_some, Result, Ok, Err, OnOk, refl, sym, ap, subst, ◌∙◌, arith}
use Rattle.std.proofs.lemmas.Bool.{le-leb}
use Rattle.asa_text.specs.declared.blocks.Block.{Block}
use Rattle.asa_ifaces.specs.Interfaces.{Interfaces}
use Rattle.asa_objects_values.specs.declared.faults.ObjectFault.{ObjectFault}
use Rattle.asa_objects_values.specs.declared.faults.ObjectFault.TheVariants as fault
use Rattle.asa_objects_values.specs.Definition.{Defines, defined}
use Rattle.asa_objects.specs.Frames.{KeepsOthers}
use Rattle.asa_objects_values.specs.Tables.{Table}
use Rattle.asa_acl.specs.Acls.{AccessLines}
use Rattle.asa_config_edit.specs.declared.fault.EditFault.TheVariants.{TooLarge}
use Rattle.asa_config_edit.specs.declared.fault.EditRefusal.{EditRefusal}
use Rattle.asa_config_edit.specs.declared.fault.EditRefusal.TheVariants.{At, NoMemory}
use Rattle.asa_config_edit.specs.Refusals.{Gives, Judged, refused, ◌>>=◌}
use Rattle.asa_acl_table.specs.Limits.{capped}
use Rattle.asa_acl_table.specs.Names.{meanings_in, pairs_of_lists}
use Rattle.asa_config.specs.Limits.{fitting}
use Rattle.asa_config.specs.Settings.{Settings}
use Rattle.asa_config.specs.Names.{pair_count}
use Rattle.asa_config.specs.Soundness.{IsKept}
use Rattle.asa_config.specs.Objects.{IsApart, Recounts, object_refusal, object_step, of_objects, told, with_objects, changed}
use Rattle.asa_config.proofs.ApartLaws.{pairs_same, fits_same, apart_keeps}

abbrev Bound : Type 0
Bound = List ((ℕ × Bool) × List ℕ)

-- what is bound stays where the pairs are those under the new objects
pub kept_objects : (old new : Table) (net : Interfaces) (lists : List AccessLines) (pairs more : ℕ) (bound : Bound) (global : Option (List ℕ)) → IsKept old net lists pairs bound global
    → more ≡ pairs_of_lists (meanings_in new net.ifaces) lists → more ≤ 262144 → IsKept new net lists more bound global
kept_objects old new net lists pairs more bound global kept counted few = record {
  counted = counted;
  few = few;
  within = kept.within;
  defined = kept.defined;
  rising = kept.rising;
  global_defined = kept.global_defined;
}

-- the pairs stay after a block of which no list names anything
pub kept_apart : (c : Settings) (pairs : ℕ) (new : Table) (b : Block) → IsKept c.objects c.net c.lists pairs c.bound c.global
    → IsApart c b → defined c.objects b ≡ Ok new → KeepsOthers c.objects new b → IsKept new c.net c.lists pairs c.bound c.global
kept_apart c pairs new b kept apart made keeps =
    kept_objects c.objects new c.net c.lists pairs pairs c.bound c.global kept
    (kept.counted ∙ sym (pairs_same c.objects new c.net.ifaces c.lists (apart_keeps c b new apart made keeps))) kept.few

-- what such a block answers
pub made_apart : (c : Settings) (new : Table) (b : Block) → pair_count c ≤ 262144 → IsApart c b → defined c.objects b ≡ Ok new
    → KeepsOthers c.objects new b → object_step c b ≡ Ok (with_objects c new)
unfolding object_step
made_apart c new b few apart made keeps = ap (λ r. of_objects r >>= changed c) made ∙ fits_same c new (apart_keeps c b new apart made keeps) few

-- a refusal of the block is that of its object or group
refused_for : (f : ObjectFault) (c : Settings) (new : Table) (b : Block) → Defines (Err f) c.objects new (defined c.objects b) → Gives {X = Settings} (Err (object_refusal f)) (object_step c b)
unfolding object_step
refused_for fault.NoMemory c new b made = tt
refused_for fault.NameTaken c new b made = ap (λ r. of_objects r >>= changed c) made.0
refused_for (fault.Unknown n k) c new b made = ap (λ r. of_objects r >>= changed c) made.0
refused_for (fault.Bad n k) c new b made = ap (λ r. of_objects r >>= changed c) made.0
refused_for (fault.Unsupported n k) c new b made = ap (λ r. of_objects r >>= changed c) made.0
refused_for (fault.Cycle n) c new b made = ap (λ r. of_objects r >>= changed c) made.0
refused_for (fault.NoSuchMember n) c new b made = ap (λ r. of_objects r >>= changed c) made.0
refused_for (fault.NoValue n) c new b made = ap (λ r. of_objects r >>= changed c) made.0
refused_for fault.TooMany c new b made = ap (λ r. of_objects r >>= changed c) made.0

pub refused_object : (x : Result (Unit {0}) ObjectFault) (y : Judged (Unit {0})) (r : EditRefusal) (c : Settings) (new : Table) (b : Block) → y ≡ told x → y ≡ Err r
    → Defines x c.objects new (defined c.objects b) → Gives {X = Settings} (Err r) (object_step c b)
refused_object (Ok u) y r c new b is refused made = absurd (cc)
refused_object (Err f) y r c new b is refused made =
    let same : object_refusal f ≡ r = cc in
    subst (λ r. Gives {X = Settings} (Err r) (object_step c b)) same (refused_for f c new b made)

-- what a block answers under which the lists have so many pairs
pub made_used : (c : Settings) (b : Block) (new : Table) → defined c.objects b ≡ Ok new → pairs_of_lists (meanings_in new c.net.ifaces) c.lists ≤ 262144
    → object_step c b ≡ Ok (with_objects c new)
unfolding object_step fitting
made_used c b new made few =
    ap (λ r. of_objects r >>= changed c) made
    ∙ ap (λ (v : Bool). if v then Ok (with_objects c new) else refused 1 (TooLarge (capped (pair_count (with_objects c new))))) (le-leb (pair_count (with_objects c new)) 262144 few)

refused_count : (r : EditRefusal) (c : Settings) (b : Block) (new : Table) → defined c.objects b ≡ Ok new → Recounts (Err r) (pairs_of_lists (meanings_in new c.net.ifaces) c.lists)
    → Gives {X = Settings} (Err r) (object_step c b)
unfolding object_step fitting
refused_count NoMemory c b new made answer = tt
refused_count (At n f) c b new made answer =
    ap (λ r. of_objects r >>= changed c) made
    ∙ ap (λ (v : Bool). if v then Ok (with_objects c new) else refused 1 (TooLarge (capped (pair_count (with_objects c new))))) (many (pair_count (with_objects c new)) answer.0)
    ∙ ap Err (sym answer.1)
  where
    many : (n : ℕ) → 262144 < n → nat_le n 262144 ≡ false
    many n lt = grind arith

pub refused_used : (x : Judged ℕ) (r : EditRefusal) (c : Settings) (b : Block) (new : Table) → defined c.objects b ≡ Ok new → x ≡ Err r
    → Recounts x (pairs_of_lists (meanings_in new c.net.ifaces) c.lists) → Gives {X = Settings} (Err r) (object_step c b)
refused_used (Ok n) r c b new made is answer = absurd (cc)
refused_used (Err f) r c b new made is answer =
    let same : f ≡ r = cc in subst (λ r. Gives {X = Settings} (Err r) (object_step c b)) same (refused_count f c b new made answer)

-- what is answered where they are many
pub many_counted : (e : EditRefusal) (total n : ℕ) → e ≡ At 1 (TooLarge (capped total)) → total ≡ n → 262144 < total → Recounts (Err e) n
many_counted e total n is same many =
    subst (λ r. Recounts (Err r) n) (sym is) (subst (λ k. 262144 < k) same many, ap (λ k. At 1 (TooLarge (capped k))) same)

-- and what is answered where they are few
pub few_used : (x : Judged ℕ) (pairs n : ℕ) → x ≡ Ok pairs → Recounts x n → (pairs ≡ n) × (n ≤ 262144)
few_used (Ok k) pairs n is answer = let same : k ≡ pairs = cc in (sym same ∙ answer.0, answer.1)
few_used (Err f) pairs n is answer = absurd (cc)

-- what holds where the block was taken
pub when_taken : (x : Result (Unit {0}) ObjectFault) (y : Judged (Unit {0})) (u : Unit {0}) (old new : Table) (s : Result Table ObjectFault) (K : Type 0) → y ≡ told x → y ≡ Ok u
    → Defines x old new s → OnOk x K → (s ≡ Ok new) × K
when_taken (Ok v) y u old new s K is taken made keeps = (made, keeps)
when_taken (Err f) y u old new s K is taken made keeps = absurd (cc)
