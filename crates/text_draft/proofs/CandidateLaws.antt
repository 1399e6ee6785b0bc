-- Addresses that words name.
use Rattle.std.proofs.Common.{◌≡◌, ℕ, ◌+◌, ◌<◌, List, [], ◌∷◌, ◌++◌, inl, inr, length, map, take, get_or, ⊎_elim, sym, ap, ◌∙◌, subst}
use Rattle.std.specs.Prelude.{◌↔◌, ◌⊎◌, Contains, IfSome}
use Rattle.std.proofs.Common.{Option, Some, None}
use Rattle.arm2_decode.specs.declared.instr.Instr.{Instr}
use Rattle.std.specs.List.{dedup}
use Rattle.std.specs.List.Sorted.{IsPermutation, IsSorted}
use Rattle.std.specs.Ordering.{nat_cmp}
use Rattle.std.proofs.Common.{eqb}
use Rattle.std.proofs.lemmas.List.{map-append, take_more}
use Rattle.std.proofs.lemmas.List.Elements.{Contains-append_left, Contains-push, Contains-push_cases}
use Rattle.std.proofs.lemmas.List.Kept.{Contains-dedup_nat, Contains-from_dedup}
use Rattle.std.proofs.lemmas.List.Sorted.{Contains-permutation, IsPermutation-sym}
use Rattle.std.proofs.lemmas.Map.Keys.{IsStrictlyIncreasing-dedup}
use Rattle.text_draft.specs.Candidates.{AreCandidates, HasWord, IsLiteral, IsNamedAt, Names, named_in}
use Rattle.text_draft.specs.Exploring.{Gains}
use Rattle.image.specs.Image.{Words}
use Rattle.word_shapes.specs.Words.{HasInstr}
use Rattle.text_draft.proofs.WayLaws.{gains_on}

module _ (words : Words) where
  -- the one instruction at an address shows what it names
  pub named_some : (at : ℕ) (i : Instr) (found : Option ℕ) → HasInstr words at i → found ≡ named_in at i
      → IfSome found (Names words at)
  named_some at i (Some to) has is = (i, has, sym is)
  named_some at i None has is = tt

  pub named_only : (at : ℕ) (i : Instr) (found : Option ℕ) → ((j : Instr) → HasInstr words at j → Some i ≡ Some j)
      → found ≡ named_in at i → (to : ℕ) → Names words at to → found ≡ Some to
  named_only at i found only is to h =
      let both : Some i ≡ Some h.0 = only h.0 h.1 in
      let same : i ≡ h.0 = cc in
      is ∙ ap (named_in at) same ∙ h.2

  -- what the words at some addresses name, and what the word at one more does
  pub named_more : (addresses : List ℕ) (i at : ℕ) (old mid new : List ℕ) → i < length addresses → get_or addresses i 0 ≡ at
      → Gains (λ a. HasWord words a × IsNamedAt words (take i addresses) a) old mid
      → Gains (λ a. HasWord words a × Names words at a) mid new
      → Gains (λ a. HasWord words a × IsNamedAt words (take (i + 1) addresses) a) old new
  named_more addresses i at old mid new lt is g h =
      let left : take (i + 1) addresses ≡ take i addresses ++ at ∷ [] =
      take_more addresses i 0 lt ∙ ap (λ y. take i addresses ++ y ∷ []) is in
      gains_on (λ a. HasWord words a × IsNamedAt words (take i addresses) a) (λ a. HasWord words a × Names words at a)
      (λ a. HasWord words a × IsNamedAt words (take (i + 1) addresses) a) old mid new
      (λ a. (
        (λ w. ⊎_elim (λ there. inl (w.0, (w.1.0, there, w.1.2)))
            (λ e. inr (w.0, subst (λ k. Names words k a) (sym e) w.1.2))
            (Contains-push_cases (take i addresses) at w.1.0 (subst (λ t. Contains t w.1.0) left w.1.1))),
        (λ w. ⊎_elim
            (λ p. (p.0, (p.1.0, subst (λ t. Contains t p.1.0) (sym left) (Contains-append_left (take i addresses) (at ∷ []) p.1.0 p.1.1), p.1.2)))
            (λ q. (q.0, (at, subst (λ t. Contains t at) (sym left) (Contains-push (take i addresses) at), q.1))) w),
      ))
      g h

  -- the words of a list that are addresses, and one more
  pub literals_more : (list : List (ℕ × ℕ)) (i : ℕ) (d e : ℕ × ℕ) (word : ℕ) (old mid new : List ℕ) → i < length list
      → get_or list i d ≡ e → word ≡ e.1 → Gains (λ a. HasWord words a × IsLiteral (take i list) a) old mid
      → Gains (λ a. HasWord words a × (word ≡ a)) mid new
      → Gains (λ a. HasWord words a × IsLiteral (take (i + 1) list) a) old new
  literals_more list i d e word old mid new lt is word_is g h =
      let f = λ (x : ℕ × ℕ). x.1 in
      let left : take (i + 1) list ≡ take i list ++ e ∷ [] = take_more list i d lt ∙ ap (λ y. take i list ++ y ∷ []) is in
      let values : map f (take (i + 1) list) ≡ map f (take i list) ++ word ∷ [] =
      ap (map f) left ∙ map-append f (take i list) (e ∷ []) ∙ ap (λ y. map f (take i list) ++ y ∷ []) (sym word_is) in
      gains_on (λ a. HasWord words a × IsLiteral (take i list) a) (λ a. HasWord words a × (word ≡ a))
      (λ a. HasWord words a × IsLiteral (take (i + 1) list) a) old mid new
      (λ a. (
        (λ w. ⊎_elim (λ there. inl (w.0, there)) (λ same. inr (w.0, same))
            (Contains-push_cases (map f (take i list)) word a (subst (λ t. Contains t a) values w.1))),
        (λ w. ⊎_elim
            (λ p. (p.0, subst (λ t. Contains t a) (sym values) (Contains-append_left (map f (take i list)) (word ∷ []) a p.1)))
            (λ q. (
              q.0,
              subst (λ t. Contains t a) (sym values)
                  (subst (Contains (map f (take i list) ++ word ∷ [])) q.1 (Contains-push (map f (take i list)) word)),
            )) w),
      ))
      g h

  -- both kinds
  pub both_kinds : (addresses : List ℕ) (old mid new : List ℕ) → Gains (λ a. HasWord words a × IsNamedAt words addresses a) old mid
      → Gains (λ a. HasWord words a × IsLiteral words a) mid new
      → Gains (λ a. HasWord words a × (IsNamedAt words addresses a ⊎ IsLiteral words a)) old new
  both_kinds addresses old mid new g h =
      gains_on (λ a. HasWord words a × IsNamedAt words addresses a) (λ a. HasWord words a × IsLiteral words a)
      (λ a. HasWord words a × (IsNamedAt words addresses a ⊎ IsLiteral words a)) old mid new
      (λ a. (
        (λ w. ⊎_elim (λ n. inl (w.0, n)) (λ l. inr (w.0, l)) w.1),
        (λ w. ⊎_elim (λ p. (p.0, inl p.1)) (λ q. (q.0, inr q.1)) w),
      ))
      g h

  -- sorted, and each kept once
  pub candidates_are : (addresses found sorted kept : List ℕ)
      → ((a : ℕ) → Contains found a ↔ (HasWord words a × (IsNamedAt words addresses a ⊎ IsLiteral words a)))
      → IsPermutation found sorted → IsSorted nat_cmp sorted → kept ≡ dedup eqb sorted
      → AreCandidates words addresses kept
  candidates_are addresses found sorted kept are there order is = record {
    ascend = rw is (IsStrictlyIncreasing-dedup sorted order);
    are = λ a. (
      (λ h. (are a).0 (Contains-permutation sorted found a (IsPermutation-sym found sorted there)
          (Contains-from_dedup eqb sorted a (subst (λ t. Contains t a) is h)))),
      (λ h. subst (λ t. Contains t a) (sym is)
          (Contains-dedup_nat sorted a (Contains-permutation found sorted a there ((are a).1 h)))),
    );
  }
