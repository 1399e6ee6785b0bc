-- No text that stands for a line has an LF, so each author's line has one, and one for each word of a pool.
use Rattle.std.proofs.Common.{◌≡◌, ℕ, zero, suc, ◌+◌, ◌-◌, ◌/◌, ◌%◌, Bool, true, false, cond, not, ◌==◌, ◌&&◌, List, [], ◌∷◌, ◌++◌, length, take, drop, codes, Option, Some, None, Result, Ok, Err, refl, sym, subst, ap, ◌∙◌, ◌<◌, append_assoc, eqb, is_some, map, option_map, arith}
use Rattle.std.specs.Prelude.{decimal, nat_lt, IfOk, ◌||◌}
use Rattle.std.specs.Fmt.{digits, digits_onto, digit_glyph}
use Rattle.std.specs.List.{dedup, dedup_from, list_all, onto_first, range_with_len}
use Rattle.std.specs.Str.{bytes_eq}
use Rattle.std.proofs.lemmas.Bool.{and_parts, eq-eqb, ne_eqb}
use Rattle.std.proofs.lemmas.Bool.Decides.{nat_tests}
use Rattle.std.proofs.lemmas.List.{append-nil, length-append, length-map}
use Rattle.asm_text.specs.Numbers.{number_by, read_number}
use Rattle.asm_text.specs.Pieces.{is_name}
use Rattle.asm_text.specs.Source.{lines_of, starts_feed}
use Rattle.asm_text.proofs.WordLaws.{same_Ok}
use Rattle.objasm.specs.Conditions.{Conditions, conditions_after, is_hidden}
use Rattle.objasm.specs.Exchanges.{exchange_of, flipped, is_rotated, other_head}
use Rattle.objasm.specs.Literals.{Literal, Load, Moved, Pool, Pooled, after_equals, first_load, has_word_name, is_label_name, line_text, literal_by, literal_for, literal_of as loaded_literal, load_as, load_at, load_of, load_with}
use Rattle.objasm.specs.Literals.{loaded, loaded_at, no_pool, pool_line, text_by, with_more, with_operand, with_word, word_name}
use Rattle.objasm.specs.Maps.{MapLine, map_line_of}
use Rattle.objasm.specs.Names.{Meanings, and_then, is_set, mapped}
use Rattle.objasm.specs.Parts.{Part, Run, Byte, after_blanks, after_field, blank_len, field_len, first_field, front_blanks, is_over, is_stop, lone_run, parts, run_before}
use Rattle.objasm.specs.PlainLines.{Text, address_in, assert_text, asserted, behind, body_text, exchanged_text, field_text, hex_literal, instruction_text, is_label_field, is_sum, joined, kind_with, literal_at, literal_of, lone, ltorg_text, nop_text, number_text, offset_text, operands_text, operation_text, part_text, parts_text, place_text, placed_text, plain_text, register_text, run_by, spaced_operands, statement_text, stop_text, stops_text, sum_line, sum_text, unmapped_text, unset_text, value_text, word_line, word_with, written, written_so}
use Rattle.objasm.specs.Settings.{Setting, setting_of, truth_of, value_of}
use Rattle.objasm.specs.Source.{Given, Plain, Shown, State, assembled_line, at_line, body, body_len, ends, given_if, is_ltorg_line, line_given, line_shown, meanings_in, no_lines, nothing_waits, plain_lines, plain_of}
use Rattle.objasm.specs.Source.{pool_lines, shown, shown_line, state_in, taken_line, then_lines, translated, trimmed, with_conditions, with_lines}
use Rattle.objasm.specs.Words.{cond_place, is_assert, is_directive, is_load, is_ltorg, is_nop, is_silent, known_cond, moved_word, sum_word, word_text}
use Rattle.objasm.specs.declared.exchanges.Flip.{Flip}
use Rattle.objasm.specs.declared.exchanges.Flip.TheVariants.{Invert}
use Rattle.objasm.specs.declared.faults.LineFault.{LineFault}
use Rattle.objasm.specs.declared.faults.LineFault.TheVariants.{BadName}
use Rattle.objasm.specs.declared.plain_lines.Translation.{Translation}
use Rattle.objasm.specs.declared.plain_lines.Translation.TheVariants.{Number, Offset, Changed, Value, Place, Sum, Parts}
use Rattle.objasm.specs.declared.source.DialectFault.{DialectFault}
use Rattle.objasm.specs.declared.source.PlainSource.{PlainSource}
use Rattle.objasm.specs.declared.names.Address.{Address}
use Rattle.objasm.specs.declared.words.Operands.{Operands}
use Rattle.objasm.specs.declared.words.Operands.TheVariants.{Sums}

is_in_line : ℕ → Bool
is_in_line b = not (b == 10)

abbrev Inside : List ℕ → Type 0
Inside text = list_all is_in_line text ≡ true

both : (xs ys : List ℕ) → Inside xs → Inside ys → Inside (xs ++ ys)
both [] ys h k = k
both (x ∷ xs) ys h k =
    let a = and_parts (is_in_line x) (list_all is_in_line xs) h in
    rw (a.0, both xs ys a.1 k) refl

one_of : (b : Bool) (xs ys : List ℕ) → Inside xs → Inside ys → Inside (cond b xs ys)
one_of true xs ys h k = h
one_of false xs ys h k = k

-- ## Fronts and rests

all_take : {X : Type 0} (p : X → Bool) (n : ℕ) (xs : List X) → list_all p xs ≡ true → list_all p (take n xs) ≡ true
all_take p zero xs h = refl
all_take p (suc n) [] h = refl
all_take p (suc n) (x ∷ xs) h =
    let a = and_parts (p x) (list_all p xs) h in
    rw (a.0, all_take p n xs a.1) refl

all_drop : {X : Type 0} (p : X → Bool) (n : ℕ) (xs : List X) → list_all p xs ≡ true → list_all p (drop n xs) ≡ true
all_drop p zero xs h = h
all_drop p (suc n) [] h = refl
all_drop p (suc n) (x ∷ xs) h = all_drop p n xs (and_parts (p x) (list_all p xs) h).1

-- ## Numbers

digits_inside : (k : ℕ) (n : ℕ) (acc : List ℕ) → Inside acc → Inside (digits_onto k 10 false n acc)
unfolding is_in_line
digits_inside zero n acc h = h
digits_inside (suc k) n acc h =
    let more : Inside (digit_glyph false (n % 10) ∷ acc) = rw (glyph n, h) refl in
    one_of (n / 10 == 0) (digit_glyph false (n % 10) ∷ acc) (digits_onto k 10 false (n / 10) (digit_glyph false (n % 10) ∷ acc)) more
    (digits_inside k (n / 10) (digit_glyph false (n % 10) ∷ acc) more)
  where
    glyph : (m : ℕ) → is_in_line (digit_glyph false (m % 10)) ≡ true
    glyph m = grind (arith, nat_tests)

decimal_inside : (n : ℕ) → Inside (decimal n)
unfolding digits
decimal_inside n = digits_inside 64 n [] refl

-- ## Parts

is_part_inside : Part → Bool
is_part_inside (Run r) = list_all is_in_line r
is_part_inside (Byte b) = is_in_line b

abbrev AllInside : List Part → Type 0
AllInside ps = list_all is_part_inside ps ≡ true

run_before_inside : (b : ℕ) (ps : List Part) → is_in_line b ≡ true → AllInside ps → AllInside (run_before b ps)
unfolding is_part_inside
run_before_inside b (Run r ∷ ps) h k =
    let a = and_parts (list_all is_in_line r) (list_all is_part_inside ps) k in
    rw (h, a.0, a.1) refl
run_before_inside b (Byte c ∷ ps) h k = rw (h, k) refl
run_before_inside b [] h k = rw h refl

parts_inside : (text : List ℕ) → Inside text → AllInside (parts text)
unfolding parts is_part_inside
parts_inside [] h = refl
parts_inside (b ∷ bs) h =
    let a = and_parts (is_in_line b) (list_all is_in_line bs) h in
    by_name (is_name b) a.0 (parts_inside bs a.1)
  where
    by_name : (test : Bool) → is_in_line b ≡ true → AllInside (parts bs) → AllInside (cond test (run_before b (parts bs)) (Byte b ∷ parts bs))
    by_name true h k = run_before_inside b (parts bs) h k
    by_name false h k = rw (h, k) refl

part_text_inside : (m : Meanings) (p : Part) → is_part_inside p ≡ true → Inside (part_text m p)
unfolding is_part_inside is_in_line
part_text_inside m (Byte b) h = rw h refl
part_text_inside m (Run r) h = by_register (m.registers r)
  where
    by_register : (o : Option ℕ) → Inside (run_by r o)
    by_register (Some n) = both (codes "R") (decimal n) refl (decimal_inside n)
    by_register None = h

parts_text_inside : (m : Meanings) (ps : List Part) → AllInside ps → Inside (parts_text m ps)
unfolding parts_text
parts_text_inside m [] h = refl
parts_text_inside m (p ∷ ps) h =
    let a = and_parts (is_part_inside p) (list_all is_part_inside ps) h in
    both (part_text m p) (parts_text m ps) (part_text_inside m p a.0) (parts_text_inside m ps a.1)

-- ## Texts and faults

abbrev IsInside : Text → Type 0
IsInside (Ok t) = Inside t
IsInside (Err fault) = Unit {0}

mapped_inside : {A : Type 0} (f : A → List ℕ) (r : Result A LineFault) → ((a : A) → Inside (f a)) → IsInside (mapped f r)
mapped_inside f (Ok a) h = h a
mapped_inside f (Err fault) h = tt

then_inside : {A : Type 0} (f : A → Text) (r : Result A LineFault) → ((a : A) → IsInside (f a)) → IsInside (and_then f r)
then_inside f (Ok a) h = h a
then_inside f (Err fault) h = tt

behind_inside : (front : List ℕ) (r : Text) → Inside front → IsInside r → IsInside (behind front r)
behind_inside front (Ok t) h k = both front t h k
behind_inside front (Err fault) h k = tt

joined_inside : (a b : Text) → IsInside a → IsInside b → IsInside (joined a b)
joined_inside (Ok x) (Ok y) h k = both x y h k
joined_inside (Ok x) (Err fault) h k = tt
joined_inside (Err fault) b h k = tt

text_of : (b : Bool) (x y : Text) → IsInside x → IsInside y → IsInside (cond b x y)
text_of true x y h k = h
text_of false x y h k = k

-- ## Numbers as written

abbrev OptionInside : Option (List ℕ) → Type 0
OptionInside (Some t) = Inside t
OptionInside None = Unit {0}

option_of : (b : Bool) (o : Option (List ℕ)) → OptionInside o → OptionInside (cond b o None)
option_of true o h = h
option_of false o h = tt

lone_inside : (text : List ℕ) (o : Option ℕ) (ps : List Part) → Inside text → OptionInside (lone text o ps)
lone_inside text (Some n) ps h = option_of (is_over (after_blanks ps)) (Some text) h
lone_inside text None ps h = tt

hex_inside : (ps : List Part) → AllInside ps → OptionInside (hex_literal ps)
unfolding is_part_inside is_in_line
hex_inside [] h = tt
hex_inside (Byte b ∷ ps) h = tt
hex_inside (Run r ∷ ps) h =
    let a = and_parts (list_all is_in_line r) (list_all is_part_inside ps) h in
    lone_inside (38 ∷ r) (number_by 16 r) ps (both (38 ∷ []) r refl a.0)

literal_inside : (ps : List Part) → AllInside ps → OptionInside (literal_at ps)
unfolding is_part_inside
literal_inside [] h = tt
literal_inside (Byte b ∷ ps) h =
    let a = and_parts (is_in_line b) (list_all is_part_inside ps) h in
    option_of (b == 38) (hex_literal ps) (hex_inside ps a.1)
literal_inside (Run r ∷ ps) h =
    let a = and_parts (list_all is_in_line r) (list_all is_part_inside ps) h in
    lone_inside r (read_number r) ps a.0

number_inside : (ps : List Part) (n : ℕ) → AllInside ps → Inside (number_text ps n)
number_inside ps n h = by_literal (literal_of ps) (literal_inside (after_blanks ps) (all_drop is_part_inside (blank_len ps) ps h))
  where
    by_literal : (o : Option (List ℕ)) → OptionInside o → Inside (written_so o n)
    by_literal (Some t) k = k
    by_literal None k = decimal_inside n

offset_inside : (ps : List Part) (n : ℕ) → AllInside ps → Inside (offset_text ps n)
unfolding is_in_line
offset_inside ps n h =
    one_of (nat_lt n 2147483648) (number_text ps n) (45 ∷ decimal (4294967296 - n)) (number_inside ps n h)
    (both (codes "-") (decimal (4294967296 - n)) refl (decimal_inside (4294967296 - n)))

-- ## Operands

front_inside : (ps : List Part) → AllInside ps → AllInside (front_blanks ps)
front_inside ps h = all_take is_part_inside (blank_len ps) ps h

rest_inside : (ps : List Part) → AllInside ps → AllInside (after_blanks ps)
rest_inside ps h = all_drop is_part_inside (blank_len ps) ps h

value_inside : (m : Meanings) (ps : List Part) → AllInside ps → IsInside (value_text m ps)
value_inside m ps h =
    text_of (is_label_field m ps) (Ok (parts_text m ps)) (mapped (λ n. parts_text m (front_blanks ps) ++ number_text ps n) (value_of m ps)) (parts_text_inside m ps h)
    (mapped_inside (λ n. parts_text m (front_blanks ps) ++ number_text ps n) (value_of m ps) (λ n.
    both (parts_text m (front_blanks ps)) (number_text ps n) (parts_text_inside m (front_blanks ps) (front_inside ps h)) (number_inside ps n h)))

register_inside : (n : ℕ) → Inside (register_text n)
unfolding is_in_line
register_inside n = both (codes "R") (decimal n) refl (decimal_inside n)

place_inside : (a : Address) → Inside (place_text a)
unfolding is_in_line
place_inside a =
    both (codes "[") (register_text a.base ++ (codes ",#" ++ (offset_text [] a.offset ++ 93 ∷ []))) refl
    (both (register_text a.base) (codes ",#" ++ (offset_text [] a.offset ++ 93 ∷ [])) (register_inside a.base)
    (both (codes ",#") (offset_text [] a.offset ++ 93 ∷ []) refl
    (both (offset_text [] a.offset) (93 ∷ []) (offset_inside [] a.offset refl) refl)))

sum_inside : (a : Address) → Inside (sum_text a)
unfolding is_in_line
sum_inside a =
    both (register_text a.base) (codes ",#" ++ decimal a.offset) (register_inside a.base)
    (both (codes ",#") (decimal a.offset) refl (decimal_inside a.offset))

placed_inside : (shown : Address → List ℕ) → ((a : Address) → Inside (shown a)) → (m : Meanings) (o : Option Address) (ps : List Part) → AllInside ps → Inside (placed_text shown m o ps)
placed_inside shown all m (Some a) ps h = both (parts_text m (front_blanks ps)) (shown a) (parts_text_inside m (front_blanks ps) (front_inside ps h)) (all a)
placed_inside shown all m None ps h = parts_text_inside m ps h

field_inside : (m : Meanings) (how : Translation) (ps : List Part) → AllInside ps → IsInside (field_text m how ps)
field_inside m Number ps h = mapped_inside (number_text ps) (value_of m ps) (λ n. number_inside ps n h)
field_inside m Offset ps h = mapped_inside (offset_text ps) (value_of m ps) (λ n. offset_inside ps n h)
field_inside m (Changed flip) ps h = mapped_inside (λ n. decimal (flipped flip n)) (value_of m ps) (λ n. decimal_inside (flipped flip n))
field_inside m Value ps h = value_inside m ps h
field_inside m Place ps h = placed_inside place_text place_inside m (address_in m ps) ps h
field_inside m Sum ps h = placed_inside sum_text sum_inside m (address_in m ps) ps h
field_inside m Parts ps h = parts_text_inside m ps h

stop_inside : (m : Meanings) (kind : Operands) (ps : List Part) → AllInside ps → IsInside (stop_text m kind ps)
unfolding is_part_inside
stop_inside m kind [] h = refl
stop_inside m kind (Run r ∷ ps) h = refl
stop_inside m kind (Byte b ∷ ps) h =
    let a = and_parts (is_in_line b) (list_all is_part_inside ps) h in
    text_of (is_stop b) (behind (b ∷ []) (field_text m (written kind b) (first_field ps))) (Ok [])
    (behind_inside (b ∷ []) (field_text m (written kind b) (first_field ps)) (rw a.0 refl) (field_inside m (written kind b) (first_field ps) (all_take is_part_inside (field_len ps) ps a.1)))
    refl

stops_inside : (m : Meanings) (kind : Operands) (ps : List Part) → AllInside ps → IsInside (stops_text m kind ps)
unfolding stops_text
stops_inside m kind [] h = refl
stops_inside m kind (p ∷ ps) h =
    joined_inside (stop_text m kind (p ∷ ps)) (stops_text m kind ps) (stop_inside m kind (p ∷ ps) h)
    (stops_inside m kind ps (and_parts (is_part_inside p) (list_all is_part_inside ps) h).1)

operands_inside : (m : Meanings) (kind : Operands) (ps : List Part) → AllInside ps → IsInside (operands_text m kind ps)
operands_inside m kind ps h =
    joined_inside (field_text m (written kind 44) (first_field ps)) (stops_text m kind ps)
    (field_inside m (written kind 44) (first_field ps) (all_take is_part_inside (field_len ps) ps h))
    (stops_inside m kind ps h)

-- ## Words

known_inside : (c : List ℕ) → Inside c → Inside (known_cond c)
unfolding is_in_line
known_inside c h =
    one_of (bytes_eq c (codes "HS")) (codes "CS") (cond (bytes_eq c (codes "LO")) (codes "CC") (cond (bytes_eq c (codes "hs")) (codes "cs") (cond (bytes_eq c (codes "lo")) (codes "cc") c))) refl
    (one_of (bytes_eq c (codes "LO")) (codes "CC") (cond (bytes_eq c (codes "hs")) (codes "cs") (cond (bytes_eq c (codes "lo")) (codes "cc") c)) refl
    (one_of (bytes_eq c (codes "hs")) (codes "cs") (cond (bytes_eq c (codes "lo")) (codes "cc") c) refl
    (one_of (bytes_eq c (codes "lo")) (codes "cc") c refl h)))

word_inside : (w : List ℕ) → Inside w → Inside (word_text w)
word_inside w h =
    let place = cond_place (length w) in
    one_of (nat_lt (length w) (place + 2)) w (take place w ++ (known_cond (take 2 (drop place w)) ++ drop 2 (drop place w))) h
    (both (take place w) (known_cond (take 2 (drop place w)) ++ drop 2 (drop place w)) (all_take is_in_line place w h)
    (both (known_cond (take 2 (drop place w))) (drop 2 (drop place w))
    (known_inside (take 2 (drop place w)) (all_take is_in_line 2 (drop place w) (all_drop is_in_line place w h)))
    (all_drop is_in_line 2 (drop place w) (all_drop is_in_line place w h))))

-- a list of pairs of texts, and what stands for the first that is the word
abbrev chosen_of : List (List ℕ × List ℕ) → List ℕ → List ℕ
chosen_of [] w = w
chosen_of (p ∷ ps) w = cond (bytes_eq w p.0) p.1 (chosen_of ps w)

abbrev SecondsInside : List (List ℕ × List ℕ) → Type 0
SecondsInside [] = Unit {0}
SecondsInside (p ∷ ps) = Inside p.1 × SecondsInside ps

chosen_inside : (ps : List (List ℕ × List ℕ)) (w : List ℕ) → SecondsInside ps → Inside w → Inside (chosen_of ps w)
chosen_inside [] w s h = h
chosen_inside (p ∷ ps) w s h = one_of (bytes_eq w p.0) p.1 (chosen_of ps w) s.0 (chosen_inside ps w s.1 h)

abbrev heads : List (List ℕ × List ℕ)
heads =
    (codes "MOV", codes "MVN") ∷ (codes "MVN", codes "MOV") ∷ (codes "AND", codes "BIC") ∷ (codes "BIC", codes "AND")
    ∷ (codes "ADD", codes "SUB") ∷ (codes "SUB", codes "ADD") ∷ (codes "CMP", codes "CMN") ∷ (codes "CMN", codes "CMP")
    ∷ (codes "mov", codes "mvn") ∷ (codes "mvn", codes "mov") ∷ (codes "and", codes "bic") ∷ (codes "bic", codes "and")
    ∷ (codes "add", codes "sub") ∷ (codes "sub", codes "add") ∷ (codes "cmp", codes "cmn") ∷ (codes "cmn", codes "cmp") ∷ []

head_inside : (w : List ℕ) → Inside w → Inside (other_head w)
unfolding is_in_line
head_inside w h = chosen_inside heads w (refl, (refl, (refl, (refl, (refl, (refl, (refl, (refl, (refl, (refl, (refl, (refl, (refl, (refl, (refl, (refl, tt)))))))))))))))) h

exchanged_inside : (w : List ℕ) (e : Option Flip) → Inside w → Inside (word_with w e)
exchanged_inside w None h = h
exchanged_inside w (Some flip) h =
    one_of (nat_lt (length w) 3) w (other_head (take 3 w) ++ drop 3 w) h
    (both (other_head (take 3 w)) (drop 3 w) (head_inside (take 3 w) (all_take is_in_line 3 w h)) (all_drop is_in_line 3 w h))

summed_inside : (w : List ℕ) → Inside w → Inside (sum_word w)
unfolding is_in_line
summed_inside w h =
    one_of (nat_lt (length w) 3) w (cond (bytes_eq (take 3 w) (codes "ADR")) (codes "ADD" ++ drop 3 w) (codes "add" ++ drop 3 w)) h
    (one_of (bytes_eq (take 3 w) (codes "ADR")) (codes "ADD" ++ drop 3 w) (codes "add" ++ drop 3 w)
    (both (codes "ADD") (drop 3 w) refl (all_drop is_in_line 3 w h)) (both (codes "add") (drop 3 w) refl (all_drop is_in_line 3 w h)))

-- ## Lines

spaced_inside : (m : Meanings) (kind : Operands) (ps : List Part) → AllInside ps → IsInside (spaced_operands m kind ps)
spaced_inside m kind ps h =
    behind_inside (parts_text m (front_blanks ps)) (operands_text m kind (after_blanks ps)) (parts_text_inside m (front_blanks ps) (front_inside ps h)) (operands_inside m kind (after_blanks ps) (rest_inside ps h))

operation_inside : (m : Meanings) (w : List ℕ) (ps : List Part) → Inside w → AllInside ps → IsInside (operation_text m w ps)
unfolding operation_text
operation_inside m w ps h k =
    text_of (is_sum m w ps) (sum_line m w ps) (and_then (exchanged_text m w ps) (exchange_of m w ps))
    (behind_inside (word_text (sum_word w)) (spaced_operands m Sums ps) (word_inside (sum_word w) (summed_inside w h)) (spaced_inside m Sums ps k))
    (then_inside (exchanged_text m w ps) (exchange_of m w ps) (λ e.
    behind_inside (word_text (word_with w e)) (spaced_operands m (kind_with w e) ps) (word_inside (word_with w e) (exchanged_inside w e h)) (spaced_inside m (kind_with w e) ps k)))

instruction_inside : (m : Meanings) (w : List ℕ) (ps : List Part) → Inside w → AllInside ps → IsInside (instruction_text m w ps)
unfolding is_in_line
instruction_inside m w ps h k =
    let known = cond (is_directive w) (Err _) (operation_text m w ps) in
    let asserts = cond (is_assert w) (assert_text m ps) known in
    let ltorgs = cond (is_ltorg w) (ltorg_text ps) asserts in
    text_of (is_nop w) (nop_text ps) (cond (is_silent w) (Ok []) ltorgs)
    (text_of (is_over (after_blanks ps)) (Ok (codes "MOV R0,R0")) (Err _) refl tt)
    (text_of (is_silent w) (Ok []) ltorgs refl
    (text_of (is_ltorg w) (ltorg_text ps) asserts
    (text_of (is_over (after_blanks ps)) (Ok []) (Err _) refl tt)
    (text_of (is_assert w) (assert_text m ps) known
    (then_inside asserted (truth_of m ps) (λ holds. text_of holds (Ok []) (Err _) refl tt))
    (text_of (is_directive w) (Err _) (operation_text m w ps) tt (operation_inside m w ps h k)))))

word_line_inside : (m : Meanings) (ps : List Part) → AllInside ps → IsInside (word_line m ps)
unfolding is_part_inside
word_line_inside m [] h = refl
word_line_inside m (Byte b ∷ ps) h = tt
word_line_inside m (Run w ∷ ps) h =
    let a = and_parts (list_all is_in_line w) (list_all is_part_inside ps) h in
    instruction_inside m w ps a.0 a.1

statement_inside : (m : Meanings) (ps : List Part) → AllInside ps → IsInside (statement_text m ps)
statement_inside m ps h =
    behind_inside (parts_text m (front_blanks ps)) (word_line m (after_blanks ps)) (parts_text_inside m (front_blanks ps) (front_inside ps h)) (word_line_inside m (after_blanks ps) (rest_inside ps h))

plain_inside : (m : Meanings) (ps : List Part) → AllInside ps → IsInside (plain_text m ps)
unfolding is_part_inside
plain_inside m [] h = statement_inside m [] h
plain_inside m (Byte b ∷ ps) h = statement_inside m (Byte b ∷ ps) h
plain_inside m (Run l ∷ ps) h =
    let a = and_parts (list_all is_in_line l) (list_all is_part_inside ps) h in
    text_of (is_set m l) (Err _) (behind l (statement_text m ps)) tt (behind_inside l (statement_text m ps) a.0 (statement_inside m ps a.1))

body_inside : (m : Meanings) (ps : List Part) → AllInside ps → IsInside (body_text m ps)
body_inside m ps h = by_line (map_line_of ps)
  where
    by_setting : (s : Option Setting) → IsInside (unset_text m s ps)
    by_setting (Some s) = refl
    by_setting None = plain_inside m ps h

    by_line : (l : Option MapLine) → IsInside (unmapped_text m l ps)
    by_line (Some l) = refl
    by_line None = by_setting (setting_of ps)

shown_inside : (plain text : List ℕ) → Inside plain → Inside text → Inside (shown_line plain text)
unfolding is_in_line
shown_inside plain text h k =
    one_of (bytes_eq (trimmed plain) (trimmed (body text))) text (trimmed plain ++ (codes " ; " ++ text)) k
    (both (trimmed plain) (codes " ; " ++ text) (all_take is_in_line _ plain h) (both (codes " ; ") text refl k))

-- ## The number of lines

all_lines : List (List ℕ) → Bool
all_lines ls = list_all (λ l. list_all is_in_line l) ls

onto_inside : (b : ℕ) (ls : List (List ℕ)) → is_in_line b ≡ true → all_lines ls ≡ true → all_lines (onto_first b ls) ≡ true
unfolding all_lines
onto_inside b [] h k = rw h refl
onto_inside b (l ∷ ls) h k =
    let a = and_parts (list_all is_in_line l) (all_lines ls) k in
    rw (h, a.0, a.1) refl

lines_inside : (text : List ℕ) → all_lines (lines_of text) ≡ true
unfolding lines_of all_lines is_in_line
lines_inside [] = refl
lines_inside (b ∷ bs) = by_feed (lines_inside bs) (b == 10) refl
  where
    by_return : all_lines (lines_of bs) ≡ true → (test : Bool) → is_in_line b ≡ true → all_lines (cond test (lines_of bs) (onto_first b (lines_of bs))) ≡ true
    by_return rest true h = rest
    by_return rest false h = onto_inside b (lines_of bs) h rest

    by_feed : all_lines (lines_of bs) ≡ true → (test : Bool) → (b == 10) ≡ test
        → all_lines (cond test ([] ∷ lines_of bs) (cond (b == 13 && starts_feed bs) (lines_of bs) (onto_first b (lines_of bs)))) ≡ true
    by_feed rest true is = rest
    by_feed rest false is = by_return rest (b == 13 && starts_feed bs) (ap not is)

onto_counts : (b n : ℕ) (ls : List (List ℕ)) → length ls ≡ suc n → length (onto_first b ls) ≡ suc n
onto_counts b n [] is = absurd (omega (arith, is))
onto_counts b n (l ∷ ls) is = is

one_line : (t rest : List ℕ) → Inside t → length (lines_of ((t ++ 10 ∷ []) ++ rest)) ≡ suc (length (lines_of rest))
unfolding lines_of is_in_line
one_line [] rest h = refl
one_line (b ∷ t) rest h =
    let a = and_parts (is_in_line b) (list_all is_in_line t) h in
    let no : (b == 10) ≡ false = by_not (b == 10) a.0 in
    rw no (by_return (b == 13 && starts_feed ((t ++ 10 ∷ []) ++ rest)) (one_line t rest a.1))
  where
    by_not : (test : Bool) → not test ≡ true → test ≡ false
    by_not true is = absurd cc
    by_not false is = refl

    by_return : (test : Bool) → length (lines_of ((t ++ 10 ∷ []) ++ rest)) ≡ suc (length (lines_of rest))
        → length (cond test (lines_of ((t ++ 10 ∷ []) ++ rest)) (onto_first b (lines_of ((t ++ 10 ∷ []) ++ rest)))) ≡ suc (length (lines_of rest))
    by_return true is = is
    by_return false is = onto_counts b (length (lines_of rest)) (lines_of ((t ++ 10 ∷ []) ++ rest)) is

-- ## Lines that are loaded

rest_of_field : (ps : List Part) → AllInside ps → AllInside (after_field ps)
rest_of_field ps h = all_drop is_part_inside (field_len ps) ps h

front_of_field : (ps : List Part) → AllInside ps → AllInside (first_field ps)
front_of_field ps h = all_take is_part_inside (field_len ps) ps h

abbrev PartsInside : Option (List Part) → Type 0
PartsInside (Some ps) = AllInside ps
PartsInside None = Unit {0}

parts_or : (b : Bool) (o : Option (List Part)) → PartsInside o → PartsInside (cond b o None)
parts_or true o h = h
parts_or false o h = tt

equals_inside : (ps : List Part) → AllInside ps → PartsInside (after_equals ps)
unfolding is_part_inside
equals_inside [] h = tt
equals_inside (Run r ∷ ps) h = tt
equals_inside (Byte b ∷ ps) h = parts_or (b == 61) (Some ps) (and_parts (is_in_line b) (list_all is_part_inside ps) h).1

loaded_inside : (ps : List Part) → AllInside ps → PartsInside (loaded_at ps)
unfolding is_part_inside
loaded_inside [] h = tt
loaded_inside (Run r ∷ ps) h = tt
loaded_inside (Byte b ∷ ps) h =
    let a = and_parts (is_in_line b) (list_all is_part_inside ps) h in
    parts_or (b == 44) (after_equals (after_blanks ps)) (equals_inside (after_blanks ps) (rest_inside ps a.1))

record IsLoadInside (l : Load) : Type 0 where
  pub label : Inside l.label
  pub blanks : AllInside l.blanks
  pub word : Inside l.word
  pub register : AllInside l.register
  pub value : AllInside l.value

abbrev LoadInside : Option Load → Type 0
LoadInside (Some l) = IsLoadInside l
LoadInside None = Unit {0}

load_or : (b : Bool) (o : Option Load) → LoadInside o → LoadInside (cond b o None)
load_or true o h = h
load_or false o h = tt

load_with_inside : (label : List ℕ) (blanks : List Part) (word : List ℕ) (ps : List Part) → Inside label → AllInside blanks → Inside word → AllInside ps → LoadInside (load_with label blanks word ps)
load_with_inside label blanks word ps l b w h = by_value (loaded_at (after_field ps)) (loaded_inside (after_field ps) (rest_of_field ps h))
  where
    by_value : (o : Option (List Part)) → PartsInside o
        → LoadInside (option_map (λ value. record { label = label; blanks = blanks; word = word; register = first_field ps; value = value }) o)
    by_value (Some value) v = record { label = l; blanks = b; word = w; register = front_of_field ps h; value = v }
    by_value None v = tt

load_at_inside : (label : List ℕ) (blanks ps : List Part) → Inside label → AllInside blanks → AllInside ps → LoadInside (load_at label blanks ps)
unfolding is_part_inside
load_at_inside label blanks [] l b h = tt
load_at_inside label blanks (Byte c ∷ ps) l b h = tt
load_at_inside label blanks (Run word ∷ ps) l b h =
    let a = and_parts (list_all is_in_line word) (list_all is_part_inside ps) h in
    load_or (is_load word) (load_with label blanks word ps) (load_with_inside label blanks word ps l b a.0 a.1)

load_inside : (ps : List Part) → AllInside ps → LoadInside (load_of ps)
unfolding is_part_inside
load_inside [] h = load_at_inside [] (front_blanks []) (after_blanks []) refl (front_inside [] h) (rest_inside [] h)
load_inside (Byte b ∷ ps) h = load_at_inside [] (front_blanks (Byte b ∷ ps)) (after_blanks (Byte b ∷ ps)) refl (front_inside (Byte b ∷ ps) h) (rest_inside (Byte b ∷ ps) h)
load_inside (Run label ∷ ps) h =
    let a = and_parts (list_all is_in_line label) (list_all is_part_inside ps) h in
    load_at_inside label (front_blanks ps) (after_blanks ps) a.0 (front_inside ps a.1) (rest_inside ps a.1)

-- what is loaded
abbrev LiteralInside : Literal → Type 0
LiteralInside (Moved n) = Unit {0}
LiteralInside (Pooled text) = Inside text

abbrev ReadInside : Result Literal LineFault → Type 0
ReadInside (Ok l) = LiteralInside l
ReadInside (Err fault) = Unit {0}

literal_for_inside : (n : ℕ) → LiteralInside (literal_for n)
literal_for_inside n = by_fit (is_rotated n || is_rotated (flipped Invert n))
  where
    by_fit : (b : Bool) → LiteralInside (cond b (Moved n) (Pooled (decimal n)))
    by_fit true = tt
    by_fit false = decimal_inside n

number_read : (r : Result ℕ LineFault) → ReadInside (mapped literal_for r)
number_read (Ok n) = literal_for_inside n
number_read (Err fault) = tt

lone_run_inside : (ps : List Part) → AllInside ps → OptionInside (lone_run ps)
unfolding is_part_inside
lone_run_inside [] h = tt
lone_run_inside (Byte b ∷ ps) h = tt
lone_run_inside (Run r ∷ ps) h = option_of (is_over (after_blanks ps)) (Some r) (and_parts (list_all is_in_line r) (list_all is_part_inside ps) h).0

literal_read : (m : Meanings) (ps : List Part) → AllInside ps → ReadInside (loaded_literal m ps)
literal_read m ps h = by_run (lone_run (after_blanks ps)) (lone_run_inside (after_blanks ps) (rest_inside ps h))
  where
    by_label : (b : Bool) (run : List ℕ) → Inside run → ReadInside (cond b (Ok (Pooled run)) (mapped literal_for (value_of m ps)))
    by_label true run k = k
    by_label false run k = number_read (value_of m ps)

    by_run : (o : Option (List ℕ)) → OptionInside o → ReadInside (literal_by m o ps)
    by_run (Some run) k = by_label (is_label_name m run) run k
    by_run None k = number_read (value_of m ps)

moved_inside : (w : List ℕ) → Inside w → Inside (moved_word w)
unfolding is_in_line
moved_inside w h =
    one_of (nat_lt (length w) 3) w (cond (bytes_eq (take 3 w) (codes "LDR")) (codes "MOV" ++ drop 3 w) (codes "mov" ++ drop 3 w)) h
    (one_of (bytes_eq (take 3 w) (codes "LDR")) (codes "MOV" ++ drop 3 w) (codes "mov" ++ drop 3 w)
    (both (codes "MOV") (drop 3 w) refl (all_drop is_in_line 3 w h)) (both (codes "mov") (drop 3 w) refl (all_drop is_in_line 3 w h)))

name_inside : (n : ℕ) → Inside (word_name n)
unfolding is_in_line
name_inside n = both (codes "literal_") (decimal n) refl (decimal_inside n)

operand_inside : (m : Meanings) (l : Load) (word operand : List ℕ) → IsLoadInside l → Inside word → Inside operand → Inside (with_operand m l word operand)
unfolding is_in_line
operand_inside m l word operand h w o =
    both l.label (parts_text m l.blanks ++ (word ++ (parts_text m l.register ++ 44 ∷ operand))) h.label
    (both (parts_text m l.blanks) (word ++ (parts_text m l.register ++ 44 ∷ operand)) (parts_text_inside m l.blanks h.blanks)
    (both word (parts_text m l.register ++ 44 ∷ operand) w
    (both (parts_text m l.register) (44 ∷ operand) (parts_text_inside m l.register h.register) (both (codes ",") operand refl o))))

-- ## Texts whose last line is ended

abbrev Whole : List ℕ → Type 0
Whole t = (rest : List ℕ) → length (lines_of (t ++ rest)) ≡ length (lines_of t) + length (lines_of rest)

nothing_whole : Whole []
unfolding lines_of
nothing_whole = λ rest. omega arith

both_whole : (s t : List ℕ) → Whole s → Whole t → Whole (s ++ t)
both_whole s t h k = λ rest.
    let e : length (lines_of ((s ++ t) ++ rest)) ≡ length (lines_of (s ++ (t ++ rest))) = ap (λ (x : List ℕ). length (lines_of x)) (append_assoc s t rest) in
    let first : length (lines_of (s ++ (t ++ rest))) ≡ length (lines_of s) + length (lines_of (t ++ rest)) = h (t ++ rest) in
    let second : length (lines_of (t ++ rest)) ≡ length (lines_of t) + length (lines_of rest) = k rest in
    let alone : length (lines_of (s ++ t)) ≡ length (lines_of s) + length (lines_of t) = h t in
    omega (arith, e, first, second, alone)

one_alone : (t : List ℕ) → Inside t → length (lines_of (t ++ 10 ∷ [])) ≡ 1
unfolding lines_of
one_alone t h = ap (λ (x : List ℕ). length (lines_of x)) (sym (append-nil (t ++ 10 ∷ []))) ∙ one_line t [] h

line_whole : (t : List ℕ) → Inside t → Whole (t ++ 10 ∷ [])
line_whole t h = λ rest.
    let one : length (lines_of ((t ++ 10 ∷ []) ++ rest)) ≡ suc (length (lines_of rest)) = one_line t rest h in
    omega (arith, one, one_alone t h)

word_whole : (n : ℕ) (text : List ℕ) → Inside text → Whole (pool_line n text)
unfolding is_in_line
word_whole n text h =
    subst (λ (x : List ℕ). Whole x) (append_assoc (word_name n) (codes " DCD " ++ text) (10 ∷ []))
    (line_whole (word_name n ++ (codes " DCD " ++ text)) (both (word_name n) (codes " DCD " ++ text) (name_inside n) (both (codes " DCD ") text refl h)))

pool_or : (b : Bool) (p q : Pool) → Whole p.lines → Whole q.lines → Whole (cond b p q).lines
pool_or true p q h k = h
pool_or false p q h k = k

with_word_whole : (n : ℕ) (text : List ℕ) (p : Pool) → Whole p.lines → Inside text → Whole (with_word n text p).lines
with_word_whole n text p h k =
    pool_or (is_some (p.known text)) p (with_more n text p)
    h (both_whole p.lines (pool_line n text) h (word_whole n text k))

-- ## What stands for a line

abbrev IsSound : Result (Pool × List ℕ) LineFault → Type 0
IsSound (Ok r) = Whole r.0.lines × Inside r.1
IsSound (Err fault) = Unit {0}

loaded_sound : (m : Meanings) (n : ℕ) (p : Pool) (l : Load) → IsLoadInside l → Whole p.lines → IsSound (loaded m n p l)
unfolding is_in_line
loaded_sound m n p l h k = by_literal (loaded_literal m l.value) (literal_read m l.value h.value)
  where
    by_literal : (r : Result Literal LineFault) → ReadInside r → IsSound (mapped (load_as m n p l) r)
    by_literal (Err fault) i = tt
    by_literal (Ok (Moved j)) i = (k, operand_inside m l (moved_word l.word) (35 ∷ decimal j) h (moved_inside l.word h.word) (both (codes "#") (decimal j) refl (decimal_inside j)))
    by_literal (Ok (Pooled text)) i = (with_word_whole n text p k i, operand_inside m l l.word (word_name (first_load n text p)) h h.word (name_inside (first_load n text p)))

pair_sound : (p : Pool) (r : Text) → Whole p.lines → IsInside r → IsSound (mapped (λ text. (p, text)) r)
pair_sound p (Ok text) h k = (h, k)
pair_sound p (Err fault) h k = tt

text_sound : (m : Meanings) (n : ℕ) (p : Pool) (o : Option Load) (ps : List Part) → LoadInside o → AllInside ps → Whole p.lines → IsSound (text_by m n p o ps)
text_sound m n p None ps h k w = pair_sound p (body_text m ps) w (body_inside m ps k)
text_sound m n p (Some l) ps h k w = by_loaded (loaded m n p l) (loaded_sound m n p l h w)
  where
    by_loaded : (r : Result (Pool × List ℕ) LineFault) → IsSound r → IsSound (and_then (λ q. mapped (λ text. (q.0, text)) (body_text m (parts q.1))) r)
    by_loaded (Err fault) s = tt
    by_loaded (Ok q) s = pair_sound q.0 (body_text m (parts q.1)) s.0 (body_inside m (parts q.1) (parts_inside q.1 s.1))

sound_or : (b : Bool) (r : Result (Pool × List ℕ) LineFault) → IsSound r → IsSound (cond b (Err BadName) r)
sound_or true r h = tt
sound_or false r h = h

line_sound : (m : Meanings) (n : ℕ) (p : Pool) (ps : List Part) → AllInside ps → Whole p.lines → IsSound (line_text m n p ps)
line_sound m n p ps h k = sound_or (has_word_name ps) (text_by m n p (load_of ps) ps) (text_sound m n p (load_of ps) ps (load_inside ps h) h k)

-- all lines come from one, and each has its number
record IsOf (n : ℕ) (p : Plain) : Type 0 where
  pub more : List (List ℕ)
  pub origins : p.origins ≡ n ∷ map (λ _. n) more
  pub count : length p.origins ≡ length (lines_of p.text)
  pub whole : Whole p.text

abbrev IsGiven : ℕ → Given → Type 0
IsGiven n (Ok g) = Whole g.0.lines × IsOf n g.1
IsGiven n (Err fault) = Unit {0}

abbrev IsShown : ℕ → Shown → Type 0
IsShown n (Ok s) = Whole s.0.pool.lines × IsOf n s.1
IsShown n (Err fault) = Unit {0}

shown_of : (n : ℕ) (plain text : List ℕ) → Inside plain → Inside text → IsOf n (shown n plain text)
shown_of n plain text h k =
    let inside : Inside (shown_line plain text) = shown_inside plain text h k in
    record {
      more = [];
      origins = refl;
      count = sym (one_alone (shown_line plain text) inside);
      whole = line_whole (shown_line plain text) inside;
    }

with_pool : (n : ℕ) (p : Pool) (x : Plain) → Whole p.lines → x.origins ≡ n ∷ [] → IsOf n x → IsOf n (with_lines x (pool_lines n p))
with_pool n p x w is h =
    let origins : x.origins ++ map (λ _. n) (lines_of p.lines) ≡ n ∷ map (λ _. n) (lines_of p.lines) = ap (λ (ns : List ℕ). ns ++ map (λ _. n) (lines_of p.lines)) is in
    let numbers : length (x.origins ++ map (λ _. n) (lines_of p.lines)) ≡ length x.origins + length (map (λ _. n) (lines_of p.lines)) = length-append x.origins (map (λ _. n) (lines_of p.lines)) in
    let pooled : length (map (λ _. n) (lines_of p.lines)) ≡ length (lines_of p.lines) = length-map (lines_of p.lines) (λ _. n) in
    let lines : length (lines_of (x.text ++ p.lines)) ≡ length (lines_of x.text) + length (lines_of p.lines) = h.whole p.lines in
    let before : length x.origins ≡ length (lines_of x.text) = h.count in
    record {
      more = lines_of p.lines;
      origins = origins;
      count = omega (arith, numbers, pooled, lines, before);
      whole = both_whole x.text p.lines h.whole w;
    }

given_of : (gives : Bool) (n : ℕ) (p : Pool) (plain text : List ℕ) → Whole p.lines → Inside plain → Inside text → IsGiven n (Ok (given_if gives n p (shown n plain text)))
given_of true n p plain text w h k = (nothing_whole, with_pool n p (shown n plain text) w refl (shown_of n plain text h k))
given_of false n p plain text w h k = (w, shown_of n plain text h k)

assembled_of : (m : Meanings) (n : ℕ) (p : Pool) (ps : List Part) (text : List ℕ) → AllInside ps → Inside text → Whole p.lines → IsGiven n (assembled_line m n p ps text)
assembled_of m n p ps text h k w = by_text (line_text m n p ps) (line_sound m n p ps h w)
  where
    by_text : (r : Result (Pool × List ℕ) LineFault) → IsSound r → IsGiven n (mapped (λ q. given_if (is_ltorg_line ps) n q.0 (shown n q.1 text)) r)
    by_text (Ok r) s = given_of (is_ltorg_line ps) n r.0 r.1 text s.0 s.1 k
    by_text (Err fault) s = tt

line_of : (hidden : Bool) (m : Meanings) (n : ℕ) (p : Pool) (ps : List Part) (text : List ℕ) → AllInside ps → Inside text → Whole p.lines → IsGiven n (line_given hidden m n p ps text)
line_of true m n p ps text h k w = (w, shown_of n [] text refl k)
line_of false m n p ps text h k w = assembled_of m n p ps text h k w

conditions_of : (n : ℕ) (cs : Conditions) (r : Given) → IsGiven n r → IsShown n (with_conditions cs r)
conditions_of n cs (Ok g) h = h
conditions_of n cs (Err fault) h = tt

taken_of : (m : Meanings) (s : State) (n : ℕ) (text : List ℕ) → Inside text → Whole s.pool.lines → IsShown n (taken_line m s n (parts (body text)) text)
taken_of m s n text h w = by_step (conditions_after m n s.conditions ps)
  where
    ps : List Part
    ps = parts (body text)

    by_step : (r : Result Conditions LineFault) → IsShown n (and_then (λ next. with_conditions next (line_given (is_hidden s.conditions ps) m n s.pool ps text)) r)
    by_step (Ok next) =
        conditions_of n next (line_given (is_hidden s.conditions ps) m n s.pool ps text)
        (line_of (is_hidden s.conditions ps) m n s.pool ps text (parts_inside (body text) (all_take is_in_line (body_len text) text h)) h w)
    by_step (Err fault) = tt

shown_line_of : (ended : Bool) (m : Meanings) (s : State) (n : ℕ) (text : List ℕ) → Inside text → Whole s.pool.lines → IsShown n (line_shown ended m s n text)
shown_line_of true m s n text h w = given_of true n s.pool [] text w refl h
shown_line_of false m s n text h w = taken_of m s n text h w

-- ## All lines

abbrev IsCounted : Plain → Type 0
IsCounted p = length p.origins ≡ length (lines_of p.text)

none_counted : (first : Option ℕ) (p : Plain) → nothing_waits first no_lines ≡ Ok p → IsCounted p
unfolding lines_of
none_counted None p is = ap (λ (q : Plain). length q.origins) (same_Ok p no_lines (sym is)) ∙ ap (λ (q : Plain). length (lines_of q.text)) (same_Ok no_lines p is)
none_counted (Some n) p is = absurd cc

joined_counted : (n : ℕ) (x q : Plain) → IsOf n x → IsCounted q → IsCounted (with_lines x q)
joined_counted n x q h k =
    let numbers : length (x.origins ++ q.origins) ≡ length x.origins + length q.origins = length-append x.origins q.origins in
    let lines : length (lines_of (x.text ++ q.text)) ≡ length (lines_of x.text) + length (lines_of q.text) = h.whole q.text in
    let first : length x.origins ≡ length (lines_of x.text) = h.count in
    let second : length q.origins ≡ length (lines_of q.text) = k in
    omega (arith, numbers, lines, first, second)

-- what is so of lines and of those behind them is so of both
rest_all : (C : Plain → Type 0) (x : Plain) (r : Result Plain (LineFault × ℕ)) (p : Plain) → ((q : Plain) → r ≡ Ok q → C (with_lines x q)) → mapped (with_lines x) r ≡ Ok p → C p
rest_all C x (Ok q) p later is = subst C (same_Ok (with_lines x q) p is) (later q refl)
rest_all C x (Err fault) p later is = absurd cc

next_all : (C : Plain → Type 0) (n : ℕ) (line : Shown) (g : State → Result Plain (LineFault × ℕ)) (p : Plain) → IsShown n line
    → ((s : State) (x q : Plain) → Whole s.pool.lines → IsOf n x → g s ≡ Ok q → C (with_lines x q)) → at_line n line (λ r. mapped (with_lines r.1) (g r.0)) ≡ Ok p → C p
next_all C n (Ok s) g p h later is = rest_all C s.1 (g s.0) p (λ q. later s.0 s.1 q h.0 h.1) is
next_all C n (Err fault) g p h later is = absurd cc

counted : (ended : Bool) (m : Meanings) (s : State) (n : ℕ) (ls : List (List ℕ)) (p : Plain) → all_lines ls ≡ true → Whole s.pool.lines → plain_lines ended m s n ls ≡ Ok p → IsCounted p
unfolding plain_lines all_lines
counted ended m s n [] p h w is = none_counted s.pool.first p is
counted ended m s n (l ∷ ls) p h w is =
    let a = and_parts (list_all is_in_line l) (all_lines ls) h in
    let below = ended || ends s.conditions l in
    next_all (λ q. IsCounted q) n (line_shown below m s n l) (λ t. plain_lines below m t (n + 1) ls) p (shown_line_of below m s n l a.0 w)
    (λ t x q v its there. joined_counted n x q its (counted below m t (n + 1) ls q a.1 v there)) is

-- the numbers behind a smaller one
abbrev Numbered : ℕ → ℕ → List ℕ → Type 0
Numbered n k ns = (before : ℕ) → before < n → dedup_from eqb before ns ≡ before ∷ range_with_len n k

same_number : (n : ℕ) (more : List (List ℕ)) (ns : List ℕ) → dedup_from eqb n (map (λ _. n) more ++ ns) ≡ dedup_from eqb n ns
same_number n [] ns = refl
same_number n (l ∷ more) ns = rw (eq-eqb n n refl) (same_number n more ns)

none_numbered : (n : ℕ) (first : Option ℕ) (p : Plain) → nothing_waits first no_lines ≡ Ok p → Numbered n 0 p.origins
none_numbered n None p is = λ before lt. ap (λ (q : Plain). dedup_from eqb before q.origins) (same_Ok p no_lines (sym is))
none_numbered n (Some k) p is = absurd cc

joined_numbered : (n k : ℕ) (x q : Plain) → IsOf n x → Numbered (n + 1) k q.origins → Numbered n (suc k) (with_lines x q).origins
joined_numbered n k x q h later = λ before lt.
    let e : x.origins ++ q.origins ≡ n ∷ (map (λ _. n) h.more ++ q.origins) = ap (λ (ns : List ℕ). ns ++ q.origins) h.origins in
    let apart : eqb n before ≡ false = ne_eqb n before (λ same. omega (arith, lt, same)) in
    let inside : dedup_from eqb n (map (λ _. n) h.more ++ q.origins) ≡ n ∷ range_with_len (n + 1) k = same_number n h.more q.origins ∙ later n (omega arith) in
    ap (λ (ns : List ℕ). dedup_from eqb before ns) e ∙ rw apart (ap (λ (ns : List ℕ). before ∷ ns) inside)

numbered : (ended : Bool) (m : Meanings) (s : State) (n : ℕ) (ls : List (List ℕ)) (p : Plain) → all_lines ls ≡ true → Whole s.pool.lines → plain_lines ended m s n ls ≡ Ok p → Numbered n (length ls) p.origins
unfolding plain_lines all_lines
numbered ended m s n [] p h w is = none_numbered n s.pool.first p is
numbered ended m s n (l ∷ ls) p h w is =
    let a = and_parts (list_all is_in_line l) (all_lines ls) h in
    let below = ended || ends s.conditions l in
    next_all (λ q. Numbered n (suc (length ls)) q.origins) n (line_shown below m s n l) (λ t. plain_lines below m t (n + 1) ls) p (shown_line_of below m s n l a.0 w)
    (λ t x q v its there. joined_numbered n (length ls) x q its (numbered below m t (n + 1) ls q a.1 v there)) is

first_numbered : (k : ℕ) (x q : Plain) → IsOf 1 x → Numbered 2 k q.origins → dedup eqb (with_lines x q).origins ≡ 1 ∷ range_with_len 2 k
first_numbered k x q h later =
    let e : x.origins ++ q.origins ≡ 1 ∷ (map (λ _. 1) h.more ++ q.origins) = ap (λ (ns : List ℕ). ns ++ q.origins) h.origins in
    ap (λ (ns : List ℕ). dedup eqb ns) e ∙ same_number 1 h.more q.origins ∙ later 1 (omega arith)

abbrev AreLines : List (List ℕ) → Plain → Type 0
AreLines ls p = IsCounted p × (dedup eqb p.origins ≡ range_with_len 1 (length ls))

all_numbered : (m : Meanings) (ls : List (List ℕ)) (p : Plain) → all_lines ls ≡ true → plain_lines false m (state_in [] no_pool) 1 ls ≡ Ok p → dedup eqb p.origins ≡ range_with_len 1 (length ls)
unfolding plain_lines all_lines
all_numbered m [] p h is = ap (λ (q : Plain). dedup eqb q.origins) (same_Ok p no_lines (sym is))
all_numbered m (l ∷ ls) p h is =
    let a = and_parts (list_all is_in_line l) (all_lines ls) h in
    let s = state_in [] no_pool in
    let below = false || ends s.conditions l in
    next_all (λ q. dedup eqb q.origins ≡ 1 ∷ range_with_len 2 (length ls)) 1 (line_shown below m s 1 l) (λ t. plain_lines below m t 2 ls) p (shown_line_of below m s 1 l a.0 nothing_whole)
    (λ t x q v its there. first_numbered (length ls) x q its (numbered below m t 2 ls q a.1 v there)) is

are_lines : (r : Result Meanings (LineFault × ℕ)) (ls : List (List ℕ)) (p : Plain) → all_lines ls ≡ true → then_lines r ls ≡ Ok p → AreLines ls p
are_lines (Ok m) ls p h is = (counted false m (state_in [] no_pool) 1 ls p h nothing_whole is, all_numbered m ls p h is)
are_lines (Err fault) ls p h is = absurd cc

pub ok_counted : (source : List ℕ) (r : Result PlainSource DialectFault) → IfOk r (λ p. translated source ≡ Ok (plain_of p)) → IfOk r (λ p. length p.origins.items ≡ length (lines_of p.text.items))
ok_counted source (Ok p) is = (are_lines (meanings_in (lines_of source)) (lines_of source) (plain_of p) (lines_inside source) is).0
ok_counted source (Err fault) is = tt

pub ok_numbered : (source : List ℕ) (r : Result PlainSource DialectFault) → IfOk r (λ p. translated source ≡ Ok (plain_of p)) → IfOk r (λ p. dedup eqb p.origins.items ≡ range_with_len 1 (length (lines_of source)))
ok_numbered source (Ok p) is = (are_lines (meanings_in (lines_of source)) (lines_of source) (plain_of p) (lines_inside source) is).1
ok_numbered source (Err fault) is = tt
