use Rattle.std.proofs.Common.{◌≡◌, ◌&&◌, ap, false, subst, sym, true, ◌∙◌}
use Rattle.std.specs.Prelude.{All, IfOk}
use Rattle.std.specs.Map.{keys_of}
use Rattle.toml_reading.specs.Documents.{are_distinct}
use Rattle.toml_reading.specs.Readings.{reading_map}
use Rattle.statement.specs.ReadingParts.{AreRead, parts_in}
use Rattle.statement.specs.Statement.{are_disjoint}
use Rattle.statement.specs.Stretches.{AreOf, number_for}
use Rattle.statement.proofs.MeetLemmas.{apart_is}
use Rattle.statement.proofs.StatementLemmas.{IsStatedMultiply, IsStatedTarget}
use Rattle.statement.proofs.StretchLemmas.{some_made}
use Rattle.statement.proofs.reading.stated_once.Goals as goal

pub invariant_of-result : goal.invariant_of-result
invariant_of-result c =
    let p = c.in-Ok.parts in
    let read : AreRead (parts_in p) = subst (λ r. IfOk (reading_map parts_in r) AreRead) c.in-Ok.is c.requires in
    let rules = c.deref.ensures.value in
    let made = some_made (are_disjoint c.deref.result.now ≡ false) (λ index. (are_disjoint c.deref.result.now ≡ true) × AreOf index (number_for c.deref.result.now)) _ _ c.in-Some-2.is c.in_ok-index.ensures in
    let words = some_made _ (λ by. (by.0.entries ≡ p.0.1.0.items) × (by.1.entries ≡ p.0.1.1.items) × ((are_distinct (keys_of p.0.1.0.items) && are_distinct (keys_of p.0.1.1.items)) ≡ true)) _ _ c.in-Some.is c.in_ok-targets.ensures in
    let limits = some_made _ (λ by. (by.0.entries ≡ p.1.1.0.items) × (by.1.entries ≡ p.1.1.1.items) × ((are_distinct (keys_of p.1.1.0.items) && are_distinct (keys_of p.1.1.1.items)) ≡ true)) _ _ c.in-Some-3.is c.in_ok-multiplies.ensures in
    let apart = (apart_is p.1.0.items).0 (sym (ap are_disjoint rules) ∙ made.0) in
    let stated = read.stated apart in
    let targets : c.in-Some.targets.entries ≡ p.0.1.0.items = words.0 in
    let multiplies : c.in-Some-3.multiplies.entries ≡ p.1.1.0.items = limits.0 in
    record {
      stated = record {
        entry_small = stated.entry_small;
        within = stated.within;
        few = stated.few;
        destinations = subst (All IsStatedTarget) (sym targets) stated.destinations;
        rules_within = stated.rules_within;
        rules_disjoint = stated.rules_disjoint;
        cycles = subst (All IsStatedMultiply) (sym multiplies) stated.cycles;
      };
      indexed = subst (λ rs. AreOf c.in-Some-2.index (number_for rs)) rules made.1;
    }
