use Rattle.std.proofs.Common.{◌∙◌, [], List, Option, ap, fold, map, sym}
use Rattle.std.specs.Prelude.{unwrap_or}
use Rattle.std.proofs.lemmas.List.{at_drop_all}
use Rattle.clap.specs.Matches.{found_of}
use Rattle.clap.specs.Walk.{Text}
use Rattle.clap.proofs.WalkLemmas.{raw_values-rows}
use Rattle.command_line.specs.Line.{Asked, with_value}
use Rattle.command_line.specs.Rows.{argument_of, asked_of}
use Rattle.command_line.proofs.requests.add_argument.Goals as goal

pub returns-in_default : goal.returns-in_default
returns-in_default c =
    let f = found_of c.args.values.now in
    let a = argument_of c.args.row.now in
    let asked = asked_of c.args.request.now in
    ap (λ (o : Option (List Text)). fold (λ (q : Asked) value. with_value a value q) asked (unwrap_or o [])) (c.in_default.ensures ∙ raw_values-rows f a.id)

pub returns : goal.returns
returns c =
    let f = found_of c.args.values.now in
    let a = argument_of c.args.row.now in
    let asked = asked_of c.args.request.now in
    sym (at_drop_all (λ vs. fold (λ (q : Asked) value. with_value a value q) (asked_of c.loop-value.request) (map (λ v. v.now) vs)) c.in-Some.given.now c.loop-value.value-index c.loop-value-test.false)
    ∙ c.loop-value.invariant
    ∙ ap (λ (o : Option (List Text)). fold (λ (q : Asked) value. with_value a value q) asked (unwrap_or o [])) (c.in-Some.ensures ∙ raw_values-rows f a.id)
