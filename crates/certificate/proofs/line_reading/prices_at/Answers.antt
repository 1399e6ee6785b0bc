use Rattle.std.proofs.Common.{◌≡◌, ◌∙◌, ◌<◌, ◌++◌, ◌∷◌, [], ℕ, List, map, take, refl, sym, ap, subst, arith, length-set}
use Rattle.std.specs.Fmt.{decimal}
use Rattle.std.specs.List.{join_with_byte}
use Rattle.std.proofs.lemmas.List.Elements.{All-push}
use Rattle.certificate.proofs.CallLaws.{Ahead, joined_end, marked_end, next_word}
use Rattle.certificate.proofs.FieldLaws.{decimal-blank, from_none}
use Rattle.certificate.proofs.JoinLaws.{marked}
use Rattle.certificate.proofs.NumberLaws.{decimal_is_one}
use Rattle.certificate.proofs.PriceLaws.{AreSmall, first_small, last_price, price_last, price_put, prices_start, some_blank}
use Rattle.certificate.proofs.line_reading.prices_at.Goals as goal

pub loop-i-init : goal.loop-i-init
loop-i-init c = record { few = omega arith; all = refl; small = λ k d lt. absurd (omega (arith, lt)); whole = refl; ahead = λ numbers n small e. prices_start c.args.words.now numbers n e }

pub returns-in_err-word : goal.returns-in_err-word
returns-in_err-word c = from_none _ _ _ c.from_residual.ensures (λ ns n small e.
    some_blank ns c.loop-i.prices c.loop-i.rest.now c.loop-i.i (c.loop-i.invariant.ahead ns n small e) n c.loop-i-test.true c.in_err-word.ensures)

pub returns-in_err-prices : goal.returns-in_err-prices
returns-in_err-prices c = from_none _ _ _ c.from_residual-in_err-prices.ensures (λ ns n small e.
    let ahead = c.loop-i.invariant.ahead ns n small e in
    let fit = first_small ns (take c.loop-i.i c.loop-i.prices) c.loop-i.rest.now ahead small in
    let next = next_word 32 decimal ns (take c.loop-i.i c.loop-i.prices) c.loop-i.rest.now c.in_ok-word.word.now c.in_ok-word.after.now ahead (decimal-blank ahead.first (omega (arith, fit))) c.in_ok-word.ensures.1 c.in_ok-word.ensures.0 in
    c.in_err-prices.ensures ahead.first fit next.0)

pub loop-i-preserved : goal.loop-i-preserved
loop-i-preserved c =
    let inv = c.loop-i.invariant in
    let read = take c.loop-i.i c.loop-i.prices in
    let v = c.in_ok-prices.field-0 in
    let put = price_put c.loop-i.prices c.loop-i.i v (omega (arith, inv.all, c.loop-i-test.true)) in
    record {
      few = omega (arith, c.loop-i-test.true);
      all = length-set c.loop-i.prices c.loop-i.i v ∙ inv.all;
      small = subst AreSmall (sym put) (All-push (λ x. x < 256) read v inv.small c.in_ok-prices.ensures.0);
      whole =
          inv.whole ∙ ap (λ (x : List ℕ). marked 32 (map decimal read) ++ x) (c.in_ok-word.ensures.0 ∙ ap (λ (x : List ℕ). x ++ 32 ∷ c.in_ok-word.after.now) c.in_ok-prices.ensures.1)
          ∙ marked_end 32 decimal read v c.in_ok-word.after.now ∙ ap (λ (x : List ℕ). marked 32 (map decimal x) ++ c.in_ok-word.after.now) (sym put);
      ahead = λ ns n small e.
          let ahead = inv.ahead ns n small e in
          let fit = first_small ns read c.loop-i.rest.now ahead small in
          let next = next_word 32 decimal ns read c.loop-i.rest.now c.in_ok-word.word.now c.in_ok-word.after.now ahead (decimal-blank ahead.first (omega (arith, fit))) c.in_ok-word.ensures.1 c.in_ok-word.ensures.0 in
          let same : ahead.first ≡ v = decimal_is_one ahead.first v (omega (arith, fit)) (omega (arith, c.in_ok-prices.ensures.0)) (sym next.0 ∙ c.in_ok-prices.ensures.1) in
          subst (λ (x : List ℕ). Ahead 32 decimal ns x c.in_ok-word.after.now) (ap (λ (x : ℕ). read ++ x ∷ []) same ∙ sym put) next.1;
    }

pub returns-in_err-prices-2 : goal.returns-in_err-prices-2
returns-in_err-prices-2 c = from_none _ _ _ c.from_residual-in_err-prices-2.ensures (λ ns n small e.
    let ahead = c.loop-i.invariant.ahead ns n small e in
    let fit = first_small ns (take c.loop-i.i c.loop-i.prices) c.loop-i.rest.now ahead small in
    let last : c.loop-i.i ≡ 14 = omega (arith, c.loop-i.invariant.few, c.loop-i-test.false) in
    c.in_err-prices-2.ensures ahead.first fit (last_price ns c.loop-i.prices c.loop-i.rest.now c.loop-i.i ahead n c.loop-i.invariant.all last))

pub returns : goal.returns
returns c =
    let inv = c.loop-i.invariant in
    let v = c.in_ok-prices-2.field-0 in
    let last : c.loop-i.i ≡ 14 = omega (arith, inv.few, c.loop-i-test.false) in
    let put = price_last c.loop-i.prices v inv.all in
    let small = subst (λ (k : ℕ). AreSmall (take k c.loop-i.prices)) last inv.small in (
      length-set c.loop-i.prices 14 v ∙ inv.all,
      subst AreSmall (sym put) (All-push (λ x. x < 256) (take 14 c.loop-i.prices) v small c.in_ok-prices-2.ensures.0),
      inv.whole ∙ ap (λ (k : ℕ). marked 32 (map decimal (take k c.loop-i.prices)) ++ c.loop-i.rest.now) last ∙ ap (λ (x : List ℕ). marked 32 (map decimal (take 14 c.loop-i.prices)) ++ x) c.in_ok-prices-2.ensures.1
          ∙ sym (joined_end 32 decimal (take 14 c.loop-i.prices) v) ∙ ap (λ (x : List ℕ). join_with_byte 32 (map decimal x)) (sym put),
    )
