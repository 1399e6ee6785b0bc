-- What is read of a text in place of an address, against what it states and its faults.
use Rattle.std.proofs.Common.{◌≡◌, ◌≢◌, ◌<◌, ◌≤◌, ◌⊎◌, ◌↔◌, ◌+◌, ◌-◌, ◌%◌, ◌^◌, ℕ, zero, suc, pos, Bool, true, false, ◌&&◌, ◌||◌, ◌==◌, if◌then◌else◌, cond, eqb, leb, List, [], ◌∷◌, ◌++◌, length, take, drop, get_or, Option, Some, None, Ok, Err, Result, MatchOption, IsTrue, inl, inr, ⊎_elim, refl, sym, ap, subst, ◌∙◌, arith, le_of_eq, add-one}
use Rattle.std.specs.Prelude.{IsUtf8, ⊤}
use Rattle.std.specs.Char.{is_ascii_digit}
use Rattle.std.specs.List.{list_all}
use Rattle.std.specs.Result.{OkIff, is_ok, result_ok}
use Rattle.std.specs.Str.{all_ascii_digits}
use Rattle.std.specs.Str.Parse.{AllDigits, IsNumeral, ParsesUnsigned, digits_value}
use Rattle.std.proofs.Math.Seq.{drop-append-add, get_or-append_seam, split_at, take-append_seam}
use Rattle.std.proofs.lemmas.Bool.{and_parts, cases_eq, cases_lt, eq-eqb, eqb-true, false≢true, le-leb, leb-false, leb-true, ne_eqb, true≢false}
use Rattle.std.proofs.lemmas.Fmt.{IsAscii-from_digits}
use Rattle.std.proofs.lemmas.List.{get_or-append-add, length-append}
use Rattle.std.proofs.lemmas.Option.{none-some, same_Some}
use Rattle.std.proofs.lemmas.Str.{IsUtf8-from_ascii}
use Rattle.std.proofs.lemmas.Str.Parse.{IsNumeralModel, digit_at, numerals_by_value, parse_digits, tells_all_ascii_digits, tells_digits}
use Rattle.memchr.specs.Find.{IsLastByte, Nowhere, Passes, is_byte2}
use Rattle.memchr.proofs.lemmas.ValueLemmas.{IsLastByte-value}
use Rattle.bus_ticks.specs.Prices.{is_word_address}
use Rattle.image.specs.Labels.{Names}
use Rattle.toml_reading.specs.Documents.{in_space}
use Rattle.toml_reading.proofs.AddressLemmas.{natural_judged}
use Rattle.toml_reading.proofs.LowestLemmas.{Judges, judged_value}
use Rattle.statement.specs.Statement.{Read, at_offset, by_words, is_number, label_or_offset, last_sign, moved, sign_at, text_address}
use Rattle.statement.specs.StatementFaults.{number_of, statement_faults}
use Rattle.statement.specs.StatementRules.{IsAtOffset, IsMoved, IsOffset, IsPlace, TextFault}
use Rattle.statement.specs.Statement.{sign_byte}
use Rattle.statement.specs.declared.faults.StatementFault.{StatementFault}
use Rattle.statement.specs.declared.faults.StatementFault.TheVariants.{OutOfRange, UnknownLabel}
use Rattle.statement.specs.declared.offsets.Sign.{Sign}
use Rattle.statement.specs.declared.offsets.Sign.TheVariants.{Plus, Minus}

-- ## Digits

same_test : (ds : List ℕ) → list_all is_ascii_digit ds ≡ all_ascii_digits ds
same_test [] = refl
same_test (c ∷ cs) = ap (λ b. is_ascii_digit c && b) (same_test cs)

model : IsNumeralModel (λ ds. all_ascii_digits ds ≡ true) (digits_value 10)
model = numerals_by_value (λ ds. all_ascii_digits ds ≡ true) tells_all_ascii_digits

numeral : (ds : List ℕ) → is_number ds ≡ true → IsNumeral 10 ds
numeral ds e =
    let parts = and_parts (leb 1 (length ds)) (list_all is_ascii_digit ds) e in
    (leb-true 1 (length ds) parts.0, model.to ds (sym (same_test ds) ∙ parts.1))

number : (ds : List ℕ) → IsNumeral 10 ds → is_number ds ≡ true
number ds n = rw (le-leb 1 (length ds) n.0, same_test ds, model.from ds n.1) refl

pub digits_are_text : (ds : List ℕ) → IsTrue (is_number ds) → IsUtf8 ds
digits_are_text ds e = IsUtf8-from_ascii ds (IsAscii-from_digits ds (numeral ds e).1)

-- a number that is read, or is too large
pub parsed :
    {E : Type 0} (ds : List ℕ) (r : Result ℕ E)
    → IsTrue (is_number ds)
    → ParsesUnsigned 32 10 ds r
    → MatchOption (result_ok r) (2 ^ 32 ≤ digits_value 10 ds) (λ n. n ≡ digits_value 10 ds)
parsed {E} ds r e h = by_result r (parse_digits (numerals_by_value (AllDigits 10) tells_digits) 32 ds r h (numeral ds e).1)
  where
    by_result :
        (r : Result ℕ E)
        → OkIff r ((0 < length ds) × (digits_value 10 ds < 2 ^ 32)) (digits_value 10 ds)
        → MatchOption (result_ok r) (2 ^ 32 ≤ digits_value 10 ds) (λ n. n ≡ digits_value 10 ds)
    by_result (Ok n) o = o.1
    by_result (Err x) o =
        ⊎_elim (λ (lt : digits_value 10 ds < 2 ^ 32). absurd (o ((numeral ds e).0, lt))) (λ le. le) (cases_lt (digits_value 10 ds) (2 ^ 32))

-- ## The last sign

pub last_sign_is : (text : List ℕ) (r : Option ℕ) → IsLastByte (is_byte2 43 45) text r → r ≡ last_sign text
last_sign_is text r h = IsLastByte-value (is_byte2 43 45) text r h

module _ (text : List ℕ) where
  abbrev Signs : ℕ → Type 0
  Signs = Passes (is_byte2 43 45) text

  abbrev SomeLast : Type 0
  SomeLast = (r : Option ℕ) × IsLastByte (is_byte2 43 45) text r

  -- the last of the first n bytes, or of those before them
  last_or_before :
      (n : ℕ)
      → suc n ≤ length text
      → Nowhere Signs (suc n) (length text)
      → (Nowhere Signs n (length text) → SomeLast)
      → SomeLast
  last_or_before n le none before = by_test (is_byte2 43 45 (get_or text n 0)) refl
    where
      by_test : (b : Bool) → is_byte2 43 45 (get_or text n 0) ≡ b → SomeLast
      by_test true e = (
        Some n,
        (record { low = omega arith; high = omega (arith, le); after = λ k low high. none k (omega (arith, low)) high }, e),
      )
      by_test false e =
          before (λ k low high p. ⊎_elim
          (λ (same : k ≡ n). false≢true (sym e ∙ ap (λ m. is_byte2 43 45 (get_or text m 0)) (sym same) ∙ p))
          (λ (other : k ≢ n). none k (omega (arith, low, other)) high p)
          (cases_eq k n))

  some_last : (n : ℕ) → n ≤ length text → Nowhere Signs n (length text) → SomeLast
  some_last zero le none = (None, none)
  some_last (suc n) le none = last_or_before n le none (some_last n (omega (arith, le)))

  last_there : IsLastByte (is_byte2 43 45) text (last_sign text)
  last_there =
      let found = some_last (length text) (omega arith) (λ k low high p. absurd (omega (arith, low, high))) in
      subst (IsLastByte (is_byte2 43 45) text) (last_sign_is text found.0 found.1) found.1

-- ## The parts of a text round a sign

sign_passes : (s : Sign) → is_byte2 43 45 (sign_byte s) ≡ true
sign_passes Plus = refl
sign_passes Minus = refl

digit_fails : (x : ℕ) → 48 ≤ x → is_byte2 43 45 x ≡ true → ⊥
digit_fails x le e =
    let no_plus : eqb x 43 ≡ false = ne_eqb x 43 (λ (is : x ≡ 43). absurd (omega (arith, le, is))) in
    let no_minus : eqb x 45 ≡ false = ne_eqb x 45 (λ (is : x ≡ 45). absurd (omega (arith, le, is))) in
    false≢true (sym (ap (λ b. b || eqb x 45) no_plus ∙ no_minus) ∙ e)

-- of the byte at an index that passes
sign_of_byte : (x : ℕ) → is_byte2 43 45 x ≡ true → sign_byte (if x == 43 then Plus else Minus) ≡ x
sign_of_byte x e = by_test (eqb x 43) refl e
  where
    by_test : (b : Bool) → eqb x 43 ≡ b → (b || eqb x 45) ≡ true → sign_byte (cond b Plus Minus) ≡ x
    by_test true is f = sym (eqb-true x 43 is)
    by_test false is f = sym (eqb-true x 45 f)

module _ (name digits : List ℕ) (s : Sign) where
  abbrev Whole : List ℕ
  Whole = name ++ sign_byte s ∷ digits

  byte_is : get_or Whole (length name) 0 ≡ sign_byte s
  byte_is = get_or-append_seam name (sign_byte s) digits 0

  sign_is : sign_at Whole (length name) ≡ s
  sign_is = rw byte_is (by_sign s)
    where
      by_sign : (t : Sign) → (if sign_byte t == 43 then Plus else Minus) ≡ t
      by_sign Plus = refl
      by_sign Minus = refl

  digits_are : drop (length name + 1) Whole ≡ digits
  digits_are = drop-append-add name (sign_byte s ∷ digits) 1

  length_is : length Whole ≡ length name + (1 + length digits)
  length_is = length-append name (sign_byte s ∷ digits) ∙ ap (λ n. length name + n) (omega arith)

  -- no sign is among the digits
  none_after : AllDigits 10 digits → (i : ℕ) → i < length digits → Passes (is_byte2 43 45) Whole (length name + suc i) → ⊥
  none_after all i lt p =
      let at : get_or Whole (length name + suc i) 0 ≡ get_or digits i 0 = get_or-append-add name (sign_byte s ∷ digits) (suc i) 0 in
      let low : 48 ≤ get_or digits i 0 = (digit_at digits i all lt).0 in
      digit_fails (get_or digits i 0) low (ap (is_byte2 43 45) (sym at) ∙ p)

  -- the sign in front of the digits is the last
  last_is : AllDigits 10 digits → (r : Option ℕ) → IsLastByte (is_byte2 43 45) Whole r → r ≡ Some (length name)
  last_is all None h =
      absurd (h (length name) (omega arith) (omega (arith, length_is)) (ap (is_byte2 43 45) byte_is ∙ sign_passes s))
  last_is all (Some k) h = ⊎_elim
      (λ (lt : k < length name). absurd (h.0.after (length name) (omega (arith, lt)) (omega (arith, length_is)) (ap (is_byte2 43 45) byte_is ∙ sign_passes s)))
      (λ (le : length name ≤ k). ⊎_elim
      (λ (same : k ≡ length name). ap (λ (n : ℕ). Some n) same)
      (λ (other : k ≢ length name).
      let high = h.0.high in
      let i = k - length name - 1 in
      let is : k ≡ length name + suc i = omega (arith, le, other) in
      absurd (none_after all i (omega (arith, is, high, length_is)) (subst (Passes (is_byte2 43 45) Whole) is h.1)))
      (cases_eq k (length name)))
      (cases_lt k (length name))

module _ (names : Names) where
  abbrev HasOffset : List ℕ → Type 0
  HasOffset text = (s : Sign) × (n : ℕ) × (l : ℕ) × IsOffset names text s n l

  whole_value :
      (name digits : List ℕ) (s : Sign) (l : ℕ)
      → IsNumeral 10 digits
      → names name ≡ Some l
      → at_offset names (Whole name digits s) (Some (length name)) ≡ by_words s (digits_value 10 digits) l
  whole_value name digits s l decimal named =
      rw (digits_are name digits s, number digits decimal, sign_is name digits s, take-append_seam name (sign_byte s ∷ digits), named) refl

  module _ (text : List ℕ) (s : Sign) (n l : ℕ) (o : IsOffset names text s n l) where
    offset_last : last_sign text ≡ Some (length o.name)
    offset_last =
        last_is o.name o.digits s o.decimal.1 (last_sign text) (subst (λ t. IsLastByte (is_byte2 43 45) t (last_sign text)) o.spelled (last_there text))

    offset_value : at_offset names text (last_sign text) ≡ by_words s n l
    offset_value =
        ap (at_offset names text) offset_last
        ∙ ap (λ t. at_offset names t (Some (length o.name))) o.spelled
        ∙ whole_value o.name o.digits s l o.decimal o.named
        ∙ ap (λ m. by_words s m l) (sym o.number)

  abbrev IsRefused : List ℕ → Option ℕ → Type 0
  IsRefused text r = (at_offset names text r ≡ Err UnknownLabel) × ¬ HasOffset text

  -- a text is of a label and a number of bytes, or it is refused
  found : (text : List ℕ) (r : Option ℕ) → r ≡ last_sign text → IsLastByte (is_byte2 43 45) text r → HasOffset text ⊎ IsRefused text r
  found text None is h = inr (refl, λ o. none-some (length o.3.name) (is ∙ offset_last text o.0 o.1 o.2 o.3))
  found text (Some k) is h =
      by_parts (is_number (drop (k + 1) text)) refl (names (take k text)) refl
    where
      cut : (o : HasOffset text) → k ≡ length o.3.name
      cut o = same_Some k (length o.3.name) (is ∙ offset_last text o.0 o.1 o.2 o.3)

      name_is : (o : HasOffset text) → take k text ≡ o.3.name
      name_is o =
          rw (cut o) (ap (take (length o.3.name)) o.3.spelled ∙ take-append_seam o.3.name (sign_byte o.0 ∷ o.3.digits))

      rest_is : (o : HasOffset text) → drop (k + 1) text ≡ o.3.digits
      rest_is o =
          rw (cut o) (ap (drop (length o.3.name + 1)) o.3.spelled ∙ digits_are o.3.name o.3.digits o.0)

      spelled : text ≡ take k text ++ sign_byte (sign_at text k) ∷ drop (k + 1) text
      spelled =
          split_at text k 0 h.0.high
          ∙ ap (λ b. take k text ++ b ∷ drop (suc k) text) (sym (sign_of_byte (get_or text k 0) h.1))
          ∙ ap (λ n. take k text ++ sign_byte (sign_at text k) ∷ drop n text) (sym (add-one k))

      by_parts :
          (b : Bool)
          → is_number (drop (k + 1) text) ≡ b
          → (o : Option ℕ)
          → names (take k text) ≡ o
          → HasOffset text ⊎ IsRefused text (Some k)
      by_parts false e o f = inr (
        rw e refl,
        λ x. true≢false (sym (number x.3.digits x.3.decimal) ∙ ap is_number (sym (rest_is x)) ∙ e),
      )
      by_parts true e None f = inr (
        rw (e, f) refl,
        λ x. none-some x.2 (sym f ∙ ap names (name_is x) ∙ x.3.named),
      )
      by_parts true e (Some l) f =
          inl (
            sign_at text k,
            digits_value 10 (drop (k + 1) text),
            l,
            record {
              name = take k text;
              digits = drop (k + 1) text;
              spelled = spelled;
              decimal = numeral (drop (k + 1) text) e;
              number = refl;
              named = f;
            },
          )

-- ## Values

value_of : Read ℕ → Option ℕ
value_of (Ok a) = Some a
value_of (Err f) = None

fault_of : Read ℕ → Option StatementFault
fault_of (Ok a) = None
fault_of (Err f) = Some f

abbrev IsOk : Read ℕ → ℕ → Type 0
IsOk r a = r ≡ Ok a

ok_same : (a b : ℕ) → IsOk (Ok a) b → a ≡ b
unfolding value_of
ok_same a b e = same_Some a b (ap value_of e)

space_value : (m a : ℕ) → in_space statement_faults (pos m) ≡ Ok a ↔ (m ≡ a) × IsTrue (is_word_address a)
space_value m a =
    let value = judged_value statement_faults _ _ (in_space statement_faults (pos m)) (natural_judged statement_faults m) a in (
      λ e. let s = value.0 e in (sym s.1, subst (λ n. IsTrue (is_word_address n)) (sym s.1) s.0),
      λ s. value.1 (subst (λ n. IsTrue (is_word_address n)) (sym s.0) s.1, sym s.0),
    )

abbrev IsFar : Read ℕ → Type 0
IsFar r = (f : StatementFault) → r ≡ Err f → f ≡ OutOfRange

far_test : (b : Bool) (a : ℕ) → IsFar (cond b (Ok a) (Err OutOfRange))
unfolding fault_of
far_test true a f e = absurd (true≢false (ap is_ok e))
far_test false a f e = same_Some f OutOfRange (ap fault_of (sym e))

moved_value : (s : Sign) (n l a : ℕ) → moved s n l ≡ Ok a ↔ IsMoved s n l a × IsTrue (is_word_address a)
moved_value Plus n l a = space_value (l + n) a
moved_value Minus n l a = by_order (leb n l) refl
  where
    by_order :
        (b : Bool)
        → leb n l ≡ b
        → cond b (in_space statement_faults (pos (l - n))) (Err OutOfRange) ≡ Ok a ↔ (a + n ≡ l) × IsTrue (is_word_address a)
    by_order true e =
        let le = leb-true n l e in
        let value = space_value (l - n) a in (
          λ r. let v = value.0 r in (omega (arith, le, v.0), v.1),
          λ v. let m = v.0 in value.1 (omega (arith, m), v.1),
        )
    by_order false e =
        let lt = leb-false n l e in
        (λ r. absurd (false≢true (ap is_ok r)), λ v. let m = v.0 in absurd (omega (arith, m, lt)))

moved_far : (s : Sign) (n l : ℕ) → IsFar (moved s n l)
moved_far Plus n l = far_test (is_word_address (l + n)) (l + n)
moved_far Minus n l = by_order (leb n l)
  where
    by_order : (b : Bool) → IsFar (cond b (in_space statement_faults (pos (l - n))) (Err OutOfRange))
    by_order true = far_test (is_word_address (l - n)) (l - n)
    by_order false = far_test false 0

words_value : (s : Sign) (n l a : ℕ)
    → by_words s n l ≡ Ok a ↔ ((n % 4 ≡ 0) × IsMoved s n l a) × IsTrue (is_word_address a)
words_value s n l a = by_rest (eqb (n % 4) 0) refl
  where
    by_rest :
        (b : Bool)
        → eqb (n % 4) 0 ≡ b
        → cond b (moved s n l) (Err OutOfRange) ≡ Ok a ↔ ((n % 4 ≡ 0) × IsMoved s n l a) × IsTrue (is_word_address a)
    by_rest true e =
        let value = moved_value s n l a in (
          λ r. let v = value.0 r in ((eqb-true (n % 4) 0 e, v.0), v.1),
          λ v. value.1 (v.0.1, v.1),
        )
    by_rest false e =
        (λ r. absurd (false≢true (ap is_ok r)), λ v. absurd (true≢false (sym (eq-eqb (n % 4) 0 v.0.0) ∙ e)))

words_far : (s : Sign) (n l : ℕ) → IsFar (by_words s n l)
words_far s n l = by_rest (eqb (n % 4) 0)
  where
    by_rest : (b : Bool) → IsFar (cond b (moved s n l) (Err OutOfRange))
    by_rest true = moved_far s n l
    by_rest false = far_test false 0

-- ## Against what is stated

abbrev TextJudged : (ℕ → Type 0) → Type 0 → Read ℕ → Type 0
TextJudged Place Named r =
    Judges
    statement_faults
    (λ a. Place a × IsTrue (is_word_address a))
    (λ f. ((¬ Named) × (f ≡ UnknownLabel)) ⊎ (Named × ((a : ℕ) → Place a → ¬ IsTrue (is_word_address a)) × (f ≡ OutOfRange)))
    r

-- what names a label is at a place, or out of range
placed_judged :
    (Place : ℕ → Type 0) (Named : Type 0) (r : Read ℕ)
    → Named
    → ((a : ℕ) → r ≡ Ok a ↔ Place a × IsTrue (is_word_address a))
    → IsFar r
    → TextJudged Place Named r
placed_judged Place Named (Ok b) named value far =
    let at = (value b).0 refl in
    record {
      answers = (
        record { stated = at; only = λ a s. ok_same a b (sym ((value a).1 s)) },
        λ f h. elim h [ inl lacks ↦ lacks.0 named | inr out ↦ out.1 b at.0 at.1 ],
      );
    }
placed_judged Place Named (Err g) named value far =
    let none : (a : ℕ) → Place a → ¬ IsTrue (is_word_address a) = λ a p w. false≢true (ap is_ok ((value a).1 (p, w))) in
    let is = far g refl in
    record {
      answers = (
        λ a s. none a s.0 s.1,
        record {
          has = inr (named, none, is);
          least = λ f h. elim h [ inl lacks ↦ absurd (lacks.0 named) | inr out ↦ le_of_eq (ap number_of (is ∙ sym out.2)) ];
        },
      );
    }

-- what names none is refused
unnamed_judged :
    (Place : ℕ → Type 0) (Named : Type 0)
    → ¬ Named
    → ((a : ℕ) → ¬ Place a)
    → TextJudged Place Named (Err UnknownLabel)
unnamed_judged Place Named lacks none =
    record {
      answers = (
        λ a s. none a s.0,
        record {
          has = inl (lacks, refl);
          least = λ f h. elim h [ inl x ↦ le_of_eq (ap number_of (sym x.1)) | inr out ↦ absurd (lacks out.0) ];
        },
      );
    }

module _ (names : Names) (text : List ℕ) where
  offset_judged :
      HasOffset names text ⊎ IsRefused names text (last_sign text)
      → TextJudged (IsAtOffset names text) (HasOffset names text) (at_offset names text (last_sign text))
  offset_judged (inr lacks) =
      rw (lacks.0) (unnamed_judged (IsAtOffset names text) (HasOffset names text) lacks.1 (λ a p. lacks.1 (p.0, p.1, p.2, p.3)))
  offset_judged (inl o) =
      placed_judged (IsAtOffset names text) (HasOffset names text) (at_offset names text (last_sign text)) o
      (λ a. (
        λ e. let v = (words_value o.0 o.1 o.2 a).0 (sym (offset_value names text o.0 o.1 o.2 o.3) ∙ e) in ((o.0, o.1, o.2, o.3, v.0.0, v.0.1), v.1),
        λ p. let q = p.0 in offset_value names text q.0 q.1 q.2 q.3 ∙ (words_value q.0 q.1 q.2 a).1 ((q.4, q.5), p.1),
      ))
      (λ f e. words_far o.0 o.1 o.2 f (sym (offset_value names text o.0 o.1 o.2 o.3) ∙ e))

  by_label : (o : Option ℕ)
      → TextJudged (λ a. MatchOption o (IsAtOffset names text a) (λ l. l ≡ a)) (MatchOption o (HasOffset names text) (λ _. ⊤)) (label_or_offset names text o)
  by_label None = offset_judged (found names text (last_sign text) refl (last_there text))
  by_label (Some l) =
      placed_judged (λ a. l ≡ a) ⊤ (in_space statement_faults (pos l)) tt (space_value l) (far_test (is_word_address l) l)

  pub text_judged : Judges statement_faults (λ a. IsPlace names text a × IsTrue (is_word_address a)) (TextFault names text) (text_address names text)
  text_judged = by_label (names text)
