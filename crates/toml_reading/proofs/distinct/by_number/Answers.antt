use Rattle.std.proofs.Common.{◌++◌, ◌∙◌, ap, sym, arith}
use Rattle.std.specs.Map.{keys_of}
use Rattle.std.proofs.lemmas.List.{nil_from_length}
use Rattle.std.specs.Vec.Iter.{into_iter_items}
use Rattle.toml_reading.specs.Documents.{are_distinct}
use Rattle.toml_reading.proofs.DistinctLemmas.{all_entries, distinct_entry, repeats_entry}
use Rattle.toml_reading.proofs.distinct.by_number.Goals as goal

pub returns-then-is_some : goal.returns-then-is_some
returns-then-is_some g c =
    repeats_entry c.args.entries.items c.loop-number.by.entries (into_iter_items c.loop-number.number-iterator) (into_iter_items c.next.new.self) c.in-Some.number c.in-Some.value c.in_ok-old.old c.loop-number.invariant.0 c.in-Some.ensures.steps.0 c.in_ok-old.ensures.old (sym c.is_some.ensures ∙ c.if-is_some.true)

pub loop-number-preserved : goal.loop-number-preserved
loop-number-preserved g c =
    let next = distinct_entry c.args.entries.items c.loop-number.by.entries c.insert.new.self.entries (into_iter_items c.loop-number.number-iterator) (into_iter_items c.next.new.self) c.in-Some.number c.in-Some.value c.in_ok-old.old c.loop-number.invariant.0 c.loop-number.invariant.1 c.in-Some.ensures.steps.0 c.in_ok-old.ensures.old (sym c.is_some.ensures ∙ c.if-is_some.false) c.in_ok-old.ensures.entries in
    (next.0, next.1, tt, tt)

pub loop-number-init : goal.loop-number-init
loop-number-init g c =
    (ap (λ es. es ++ into_iter_items c.into_iter-number-iterator.result) c.new-by.ensures.empty ∙ c.into_iter-number-iterator.ensures.into_iter_gives.0, ap (λ es. are_distinct (keys_of es)) c.new-by.ensures.empty, tt, tt)

pub returns : goal.returns
returns g c =
    all_entries c.args.entries.items c.loop-number.by.entries (into_iter_items c.loop-number.number-iterator) c.loop-number.invariant.0 (nil_from_length (into_iter_items c.loop-number.number-iterator) (omega (arith, c.in-None.ensures.steps.0, (c.loop-number.number-iterator).rest.ok.0))) c.loop-number.invariant.1
