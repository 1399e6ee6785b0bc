-- Which line of a source is the first that is refused at once.
use Rattle.std.specs.Prelude.{is_some, nat_lt, if◌then◌else◌}
use Rattle.std.proofs.Common.{◌≡◌, ◌||◌, ◌≢◌, ◌↔◌, ◌+◌, ◌<◌, ◌≤◌, ◌==◌, ℕ, zero, suc, true, false, List, [], ◌∷◌, ◌++◌, length, Option, Some, None, Result, Ok, Err, refl, sym, ap, subst, ◌∙◌, inl, inr, ◌⊎◌, arith, append_assoc}
use Rattle.std.proofs.lemmas.Bool.{cases_Bool}
use Rattle.std.specs.List.{AllByRecursion, Contains}
use Rattle.std.proofs.lemmas.Bool.Decides.{nat_tests}
use Rattle.std.proofs.lemmas.List.{append-nil, length-append}
use Rattle.std.proofs.lemmas.List.Elements.{Contains-append_cases, Contains-append_left, Contains-append_right}
use Rattle.std.proofs.lemmas.Option.{none-some, same_Some}
use Rattle.std.specs.Result.{result_err}
use Rattle.image.specs.Image.{may_hold}
use Rattle.asm_text.specs.Said.{Said, Orgs}
use Rattle.asm_text.specs.Spelling.{Spells}
use Rattle.asm_text.specs.Statements.{Parsed, line_of}
use Rattle.asm_text.specs.declared.statement.TextFault.{TextFault}
use Rattle.asm_text.proofs.WordLaws.{all_join, same_Ok}
use Rattle.assembler.specs.Assembles.{Laid, Once, address_after, is_open, label_at, labels_of, laid, addresses_from, segments, word_count}
use Rattle.assembler.specs.Refusals.{ArePassed, HasFault, IsLowest, IsUnreadable, IsWrong, address_of_next, asked}
use Rattle.image.specs.Labels.{Names}
use Rattle.assembler.specs.Sweeps.{State, at_first, label_fault, labelled_state, line_step, said_step, swept, after_line}
use Rattle.assembler.specs.declared.fault.LineFault.{LineFault}
use Rattle.assembler.specs.declared.fault.LineFault.TheVariants.{OutOfRange, TooLong}
use Rattle.assembler.proofs.AssembleBack.{Apart, Exact, In}
use Rattle.assembler.proofs.AssembleBasics.{all_map}
use Rattle.assembler.proofs.AssembleLaws.{first_covers, first_exact, first_segments, parts_some}
use Rattle.assembler.proofs.AssembleReady.{NotEmpty}
use Rattle.assembler.proofs.AssembleSteps.{Covers, Pends, items_at, said_is, segments_in}
use Rattle.assembler.proofs.AssembleSweep.{NamesOf, label_names, no_labels, step_is}
use Rattle.assembler.proofs.RefuseFront.{Front, ItemsOf, address_more, count_laid, counts, exact_said, items_more, laid_more, labels_more, open_after, open_more, said_least, taken_by, taken_more}
use Rattle.assembler.proofs.RefuseLeast.{IsLeast, either, is_least, least_is, least_no, least_same, no_least}
use Rattle.assembler.proofs.RefusePlaces.{Fine, fine}
use Rattle.assembler.proofs.RefuseText.{fault_in_reading}

-- ## Lists

once_join : (xs ys : List ℕ) → Once xs → Once ys → Apart xs ys → Once (xs ++ ys)
unfolding Apart In
once_join [] ys h k apart = k
once_join (x ∷ xs) ys h k apart = (
  all_join (λ y. x ≢ y) xs ys h.0
      (all_map (λ a. In (x ∷ xs) a → ⊥) (λ y. x ≢ y) ys (λ a f same. f (inl same)) apart),
  once_join xs ys h.1 k (all_map (λ a. In (x ∷ xs) a → ⊥) (λ a. In xs a → ⊥) ys (λ a f m. f (inr m)) apart),
)

above_places : (n at b : ℕ) → b < at → AllByRecursion (λ y. b ≢ y) (addresses_from at n)
above_places zero at b lt = tt
above_places (suc n) at b lt =
    (λ same. omega (arith, lt, same), above_places n (at + 4) b (omega (arith, lt)))

once_places : (n at : ℕ) → Once (addresses_from at n)
once_places zero at = tt
once_places (suc n) at = (above_places n (at + 4) at (omega arith), once_places n (at + 4))

-- ## A line without a fault

fine_words : (taken : List ℕ) (at : ℕ) (said : Option Said) → Fine taken (asked at said)
    → Fine taken (addresses_from at (word_count said))
unfolding Apart
fine_words taken at (Some (Orgs n)) h = record { held = tt; apart = tt }
fine_words taken at said h = h

org_may : (taken : List ℕ) (at : ℕ) (said : Option Said) → Fine taken (asked at said) → (n : ℕ)
    → said ≡ Some (Orgs n) → may_hold n ≡ true
org_may taken at said h n is =
    let k : Fine taken (n ∷ []) = subst (λ x. Fine taken (asked at x)) is h in k.held.0

names_next : (s : State) (k : ℕ) (before : List Parsed) (label : Option (List ℕ)) (said : Option Said)
    → Front s k before → label_fault s label ≡ None
    → (name : List ℕ) → (a : ℕ)
    → ((labelled_state s label).names name ≡ Some a)
    ↔ Contains (labels_of (laid (before ++ record { label = label; said = said } ∷ []))) (name, a)
names_next s k before label said h fresh name a =
    let here = label_at (address_of_next before) label in
    let old = labels_of (laid before) in
    let n : NamesOf s.names (labelled_state s label).names (label_at s.at label ++ []) =
    label_names s label (labelled_state s label).names [] fresh (no_labels (labelled_state s label).names) in
    let same : label_at s.at label ++ [] ≡ here =
    append-nil (label_at s.at label) ∙ ap (λ b. label_at b label) h.at in
    let all : labels_of (laid (before ++ record { label = label; said = said } ∷ [])) ≡ old ++ here =
    labels_more before (record { label = label; said = said }) in (
      λ e. subst (λ ls. Contains ls (name, a)) (sym all) (elim ((n.named name a).0 e) [
        | inl was ↦ Contains-append_left old here (name, a) ((h.named name a).0 was)
        | inr c ↦ Contains-append_right old here (name, a) (subst (λ ls. Contains ls (name, a)) same c)
      ]),
      λ c. elim (Contains-append_cases old here (name, a) (subst (λ ls. Contains ls (name, a)) all c)) [
        | inl was ↦ (n.named name a).1 (inl ((h.named name a).1 was))
        | inr now ↦ (n.named name a).1 (inr (subst (λ ls. Contains ls (name, a)) (sym same) now))
      ],
    )

few_words : (before : List Parsed) (p : Parsed) → ((f : LineFault) → IsWrong before p f → ⊥)
    → length (taken_by (before ++ p ∷ [])) ≤ 65536
few_words before p none =
    elim (cases_Bool (nat_lt 65536 (length (taken_by (before ++ p ∷ []))))) [
      | inl e ↦ absurd (none TooLong (inr (inl (grind (arith, nat_tests, e)))))
      | inr e ↦ grind (arith, nat_tests, e)
    ]

pub front_next : (s : State) (k : ℕ) (before : List Parsed) (p : Parsed) (t : State) → Front s k before
    → NotEmpty p.said → said_step s k p.label p.said ≡ Ok t → Front t (k + 1) (before ++ p ∷ [])
front_next s k before p t h some e =
    let at = address_of_next before in
    let n = word_count p.said in
    let here = addresses_from at n in
    let taken = taken_by before in
    let none =
    no_least (IsWrong before p) (result_err (said_step s k p.label p.said))
    (said_least s k before p.label p.said h some) (ap result_err e) in
    let asks = fine taken (asked at p.said) (λ bad. none OutOfRange (inr bad)) in
    let words = fine_words taken at p.said asks in
    let step = said_is s k p.label p.said t e in
    let m = step.moves in
    let small : segments_in s ≤ 16 = omega (arith, h.segment_count, h.few_segments) in
    let segs = m.segments small in
    let c = counts s k before p h in
    let now : taken ++ addresses_from s.at n ≡ taken_by (before ++ p ∷ []) =
    ap (λ a. taken ++ addresses_from a n) h.at ∙ sym (taken_more before p) in
    let line : Laid = record { at = at; label = p.label; said = p.said } in
    let same_segments : segments_in t ≡ segments false (laid (before ++ p ∷ [])) =
    segs.0 ∙ ap (λ g. g + (if is_some s.start || n == 0 then 0 else 1)) h.segment_count
    ∙ sym c.segment_count in
    let exact = exact_said s k p.label p.said t taken (org_may taken at p.said asks) e h.exact in
    let pends : Pends p.said at m.new = subst (λ a. Pends p.said a m.new) h.at m.pends in
    let items =
    items_more 1 k (laid before) line s.items m.new h.items
    (omega (arith, h.number, count_laid 32768 before)) pends m.count in
    record {
      number = omega (arith, h.number, length-append before (p ∷ []));
      at = m.at ∙ ap (λ a. address_after a p.said) h.at ∙ sym (address_more 32768 before p);
      named = subst
          (λ (names : Names). (name : List ℕ) → (a : ℕ)
          → (names name ≡ Some a) ↔ Contains (labels_of (laid (before ++ p ∷ []))) (name, a))
          (sym step.names) (names_next s k before p.label p.said h step.fresh);
      covers = subst (Covers t) now (m.covers taken h.covers);
      exact = subst (Exact t) now exact;
      opened = m.opened ∙ ap (λ b. is_open b p.said) h.opened
          ∙ sym (ap (open_after false) (laid_more 32768 before p) ∙ open_more false (laid before) line);
      segment_count = same_segments;
      few_segments = subst (λ g. g ≤ 16) same_segments segs.1;
      held = subst (AllByRecursion (λ a. may_hold a ≡ true)) (sym (taken_more before p))
          (all_join (λ a. may_hold a ≡ true) taken here h.held words.held);
      once = subst Once (sym (taken_more before p))
          (once_join taken here h.once (once_places n at) words.apart);
      few = few_words before p none;
      items = subst (λ ls. ItemsOf 1 ls t.items) (sym (laid_more 32768 before p))
          (subst (ItemsOf 1 (laid before ++ line ∷ []))
          (sym (m.items ∙ ap (λ a. s.items ++ items_at k a m.new) h.at)) items);
    }

pub front_first : Front at_first 1 []
unfolding ItemsOf
front_first = record {
  number = refl;
  at = refl;
  named = λ name a. (λ e. absurd (nothing a e), λ c. absurd (omega (arith, c.1)));
  covers = first_covers;
  exact = first_exact;
  opened = refl;
  segment_count = first_segments;
  few_segments = omega arith;
  held = tt;
  once = tt;
  few = omega arith;
  items = refl;
}
  where
    nothing : (a : ℕ) → ◌≡◌ {A = Option ℕ} None (Some a) → ⊥
    nothing a e = cc

-- ## A line

spelled_some : (line : List ℕ) (p : Parsed) → Spells p line → NotEmpty p.said
spelled_some line p s = parts_some p.label p.said s.pieces s.spelled

pub one_meaning : (p q : Parsed) (r : Result Parsed TextFault) → r ≡ Ok p → r ≡ Ok q → p ≡ q
one_meaning p q r e k = same_Ok p q (sym e ∙ k)

no_meaning : (p : Parsed) (w : TextFault) (r : Result Parsed TextFault) → r ≡ Err w → r ≡ Ok p → ⊥
no_meaning p w r e k = let same : ◌≡◌ {A = Result Parsed TextFault} (Err w) (Ok p) = sym e ∙ k in cc

-- what the lemmas of a line's text say
pub record Texts : Type 0 where
  pub spells : (line : List ℕ) → (p : Parsed) → line_of line ≡ Ok p → Spells p line
  pub reads : (line : List ℕ) → (p : Parsed) → Spells p line → line_of line ≡ Ok p
  pub least : (line : List ℕ) → IsLeast (IsUnreadable line) (fault_in_reading (line_of line))

pub line_least : Texts → (s : State) (k : ℕ) (before : List Parsed) (line : List ℕ) → Front s k before
    → IsLeast (HasFault before line) (result_err (line_step s k (line_of line)))
unfolding IsLeast
line_least texts s k before line h = go (line_of line) refl (texts.least line)
  where
    go : (r : Result Parsed TextFault) → line_of line ≡ r → IsLeast (IsUnreadable line) (fault_in_reading r)
        → IsLeast (HasFault before line) (result_err (line_step s k r))
    go (Err w) is least =
        least_same (IsUnreadable line) (HasFault before line) (fault_in_reading (Err w)) (λ f u. inl u)
        (λ f e. elim e [
          | inl u ↦ u
          | inr x ↦
              absurd (no_meaning x.0 w (line_of line) is (texts.reads line x.0 x.1))
        ]) least
    go (Ok p) is least =
        least_same (IsWrong before p) (HasFault before line) (result_err (said_step s k p.label p.said))
        (λ f e. inr (p, texts.spells line p is, e))
        (λ f e. elim e [
          | inl u ↦ absurd (least f u)
          | inr x ↦
              subst (λ q. IsWrong before q f)
              (one_meaning x.0 p (line_of line) (texts.reads line x.0 x.1) is) x.2
        ]) (said_least s k before p.label p.said h (spelled_some line p (texts.spells line p is)))

went_on : (r : Result State LineFault) → result_err r ≡ None → (t : State) × (r ≡ Ok t)
went_on (Ok t) e = (t, refl)
went_on (Err f) e = absurd (none-some f (sym e))

stopped : (r : Result State LineFault) (f : LineFault) → result_err r ≡ Some f → r ≡ Err f
stopped (Ok t) f e = absurd (none-some f e)
stopped (Err g) f e = ap Err (same_Some g f e)

-- ## Lines that pass

pub record Passes (s : State) (k : ℕ) (before : List Parsed) (lines : List (List ℕ)) (said : List Parsed)
    (rest : List (List ℕ)) : Type 0 where
  pub state : State
  pub next : ℕ
  pub next-is : next ≡ k + length lines
  pub front : Front state next (before ++ said)
  pub same : swept s k (lines ++ rest) ≡ swept state next rest

pub passed_on : Texts
    → (s : State) (k : ℕ) (before : List Parsed) (lines : List (List ℕ)) (said : List Parsed)
    (rest : List (List ℕ)) → Front s k before → ArePassed before lines said
    → Passes s k before lines said rest
unfolding swept
passed_on texts s k before [] [] rest h a =
    record {
      state =
          s;
      next = k;
      next-is = omega arith;
      front = subst (Front s k) (sym (append-nil before)) h;
      same = refl;
    }
passed_on texts s k before [] (p ∷ said) rest h a = absurd a
passed_on texts s k before (line ∷ lines) [] rest h a = absurd a
passed_on texts s k before (line ∷ lines) (p ∷ said) rest h a =
    let read = texts.reads line p a.0 in
    let one =
    went_on (line_step s k (line_of line))
    (least_no (HasFault before line) (result_err (line_step s k (line_of line)))
    (line_least texts s k before line h) a.1) in
    let step : said_step s k p.label p.said ≡ Ok one.0 = sym (ap (line_step s k) read) ∙ one.1 in
    let next = front_next s k before p one.0 h (spelled_some line p a.0) step in
    let more = passed_on texts one.0 (k + 1) (before ++ p ∷ []) lines said rest next a.2 in
    record {
      state = more.state;
      next = more.next;
      next-is = omega (arith, more.next-is);
      front = subst (Front more.state more.next) (append_assoc before (p ∷ []) said) more.front;
      same = ap (λ r. after_line k r (λ u. swept u (k + 1) (lines ++ rest))) one.1 ∙ more.same;
    }

-- ## All lines pass, or one is the first that does not

pub record Stops (before : List Parsed) (lines : List (List ℕ)) : Type 0 where
  pub front : List (List ℕ)
  pub line : List ℕ
  pub after : List (List ℕ)
  pub parts : lines ≡ front ++ (line ∷ after)
  pub said : List Parsed
  pub passed : ArePassed before front said
  pub fault : LineFault
  pub fault-is : IsLowest (HasFault (before ++ said) line) fault

pub pass_or_stop : Texts → (s : State) (k : ℕ) (before : List Parsed) (lines : List (List ℕ))
    → Front s k before → ((said : List Parsed) × ArePassed before lines said) ⊎ Stops before lines
pass_or_stop texts s k before [] h = inl ([], tt)
pass_or_stop texts s k before (line ∷ lines) h =
    let o = result_err (line_step s k (line_of line)) in
    let least = line_least texts s k before line h in
    elim (either o) [
      | inr f ↦ inr (record {
        front = [];
        line = line;
        after = lines;
        parts = refl;
        said = [];
        passed = tt;
        fault = f.0;
        fault-is =
            subst (λ bs. IsLowest (HasFault bs line) f.0) (sym (append-nil before))
            (is_least (HasFault before line) o f.0 least f.1);
      })
      | inl none ↦
          let one = went_on (line_step s k (line_of line)) none in
          let read = step_is s k (line_of line) one.0 one.1 in
          let p = read.0 in
          let spelled = texts.spells line p read.1 in
          let step : said_step s k p.label p.said ≡ Ok one.0 = sym (ap (line_step s k) read.1) ∙ one.1 in
          let clean = no_least (HasFault before line) o least none in
          elim (pass_or_stop texts one.0 (k + 1) (before ++ p ∷ []) lines
          (front_next s k before p one.0 h (spelled_some line p spelled) step)) [
            | inl all ↦ inl (p ∷ all.0, (spelled, clean, all.1))
            | inr stop ↦ inr (record {
              front = line ∷ stop.front;
              line = stop.line;
              after = stop.after;
              parts = ap (λ (ls : List (List ℕ)). line ∷ ls) stop.parts;
              said = p ∷ stop.said;
              passed = (spelled, clean, stop.passed);
              fault = stop.fault;
              fault-is =
                  subst (λ bs. IsLowest (HasFault bs stop.line) stop.fault)
                  (append_assoc before (p ∷ []) stop.said) stop.fault-is;
            })
          ]
    ]

-- what the first sweep returns for a line that stops it
pub stops_swept : Texts
    → (s : State) (k : ℕ) (before : List Parsed) (line : List ℕ) (after : List (List ℕ)) (fault : LineFault)
    → Front s k before → IsLowest (HasFault before line) fault
    → swept s k (line ∷ after) ≡ Err (fault, k)
unfolding swept
stops_swept texts s k before line after fault h low =
    let is = stopped (line_step s k (line_of line)) fault
    (least_is (HasFault before line) (result_err (line_step s k (line_of line))) fault
    (line_least texts s k before line h) low) in
    rw is refl
