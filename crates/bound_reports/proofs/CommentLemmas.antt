-- A comment's line in front of a printed document changes nothing of what is read.
use Rattle.std.proofs.Common.{◌≡◌, ◌∙◌, ℕ, zero, suc, ◌/◌, ◌%◌, ◌<◌, ◌≤◌, Bool, true, false, cond, ◌==◌, List, [], ◌∷◌, ◌++◌, length, codes, Option, Some, None, option_map, option_and_then, refl, arith, append_assoc, length-append}
use Rattle.std.specs.Fmt.{digit_glyph, digits, digits_onto}
use Rattle.std.specs.List.{list_all}
use Rattle.std.proofs.lemmas.Bool.{and_parts}
use Rattle.std.proofs.lemmas.Bool.Decides.{nat_tests}
use Rattle.std.proofs.lemmas.List.Folds.{list_all-append}
use Rattle.std.proofs.lemmas.Option.{none-some}
use Rattle.toml_parser.specs.Lexical.{Read, first, is_non_eol, skip_blank, skip_from}
use Rattle.toml_writer.specs.Text.{dotted_text}
use Rattle.toml_writer.proofs.Strings.{is_key_start, key_start-path}
use Rattle.toml.specs.Data.{Members}
use Rattle.toml.specs.Tables.{Document, Expression, close, define, key_value, no_nodes, std_table, array_table}
use Rattle.toml.specs.Parse.{line, lines, parse_document, skip_bom}
use Rattle.toml.specs.Text.{IsLinesText}

-- ## The lines of a document, with more steps to read them

by_next : (n m : ℕ) (d : Document) (rest : List ℕ)
    → ((next : Document) → lines n next rest ≡ Some d → lines m next rest ≡ Some d) → (o : Option Document)
    → option_and_then (λ next. lines n next rest) o ≡ Some d → option_and_then (λ next. lines m next rest) o ≡ Some d
by_next n m d rest more None h = h
by_next n m d rest more (Some next) h = more next h

by_line : (n m : ℕ) (doc d : Document)
    → ((next : Document) (rest : List ℕ) → lines n next rest ≡ Some d → lines m next rest ≡ Some d) → (o : Read Expression)
    → option_and_then (λ e. option_and_then (λ next. lines n next e.1) (define doc e.0)) o ≡ Some d
    → option_and_then (λ e. option_and_then (λ next. lines m next e.1) (define doc e.0)) o ≡ Some d
by_line n m doc d more None h = h
by_line n m doc d more (Some e) h = by_next n m d e.1 (λ next. more next e.1) (define doc e.0) h

by_end : (doc d : Document) (x y : Option Document) → (x ≡ Some d → y ≡ Some d) → (b : Bool)
    → cond b (Some doc) x ≡ Some d → cond b (Some doc) y ≡ Some d
by_end doc d x y more true h = h
by_end doc d x y more false h = more h

more_steps : (n m : ℕ) (doc d : Document) (text : List ℕ) → n ≤ m → lines n doc text ≡ Some d
    → lines m doc text ≡ Some d
unfolding lines
more_steps zero m doc d text le h = absurd (none-some d h)
more_steps (suc n) zero doc d text le h = absurd (omega (arith, le))
more_steps (suc n) (suc m) doc d text le h =
    by_end doc d _ _
    (by_line n m doc d (λ next rest. more_steps n m next d rest (omega (arith, le))) (line (skip_blank text)))
    (length (skip_blank text) == 0) h

-- what is skipped in front of a text does not matter
same_start : (n : ℕ) (doc : Document) (text other : List ℕ) → skip_blank other ≡ skip_blank text
    → lines n doc other ≡ lines n doc text
unfolding lines
same_start zero doc text other same = refl
same_start (suc n) doc text other same = rw same

-- ## The comment

-- no byte of it ends a line or is a control byte
abbrev pub IsPlainLine : List ℕ → Type 0
IsPlainLine bytes = list_all is_non_eol bytes ≡ true

skip_inside : (bytes text : List ℕ) → IsPlainLine bytes → skip_from true true (bytes ++ 10 ∷ text) ≡ skip_blank text
unfolding skip_from
skip_inside [] text plain = refl
skip_inside (c ∷ cs) text plain =
    let (here, rest) = and_parts (is_non_eol c) (list_all is_non_eol cs) plain in
    let no_feed : (c == 10) ≡ false = grind (arith, nat_tests) in
    let no_return : (c == 13) ≡ false = grind (arith, nat_tests) in
    rw (no_feed, no_return, here) (skip_inside cs text rest)

skip_comment : (bytes text : List ℕ) → IsPlainLine bytes → skip_blank (35 ∷ (bytes ++ 10 ∷ text)) ≡ skip_blank text
unfolding skip_from
skip_comment bytes text plain = skip_inside bytes text plain

not_marked : (text : List ℕ) → (first text == 239) ≡ false → skip_bom text ≡ text
unfolding skip_bom
not_marked text h = rw h

of_lines : (text : List ℕ) (ms : Members) (o : Option Document)
    → lines (suc (length text)) (no_nodes, []) (skip_bom text) ≡ o → option_map (λ doc. close doc.0) o ≡ Some ms
    → parse_document text ≡ Some ms
unfolding parse_document
of_lines text ms o is there = rw is there

parsed_by : (text : List ℕ) (ms : Members) → parse_document text ≡ Some ms
    → option_map (λ doc. close doc.0) (lines (suc (length text)) (no_nodes, []) (skip_bom text)) ≡ Some ms
unfolding parse_document
parsed_by text ms h = h

-- a document that does not begin with a byte order mark, after a comment's line
pub after_comment : (bytes text : List ℕ) (ms : Members) → IsPlainLine bytes → (first text == 239) ≡ false
    → parse_document text ≡ Some ms → parse_document (35 ∷ (bytes ++ 10 ∷ text)) ≡ Some ms
after_comment bytes text ms plain start parsed =
    by_read (lines (suc (length text)) (no_nodes, []) text) refl
    (rw (not_marked text start) at (parsed_by text ms parsed))
  where
    by_read : (o : Option Document) → lines (suc (length text)) (no_nodes, []) text ≡ o
        → option_map (λ doc. close doc.0) o ≡ Some ms → parse_document (35 ∷ (bytes ++ 10 ∷ text)) ≡ Some ms
    by_read None is h = absurd (none-some ms h)
    by_read (Some d) is h =
        let whole = 35 ∷ (bytes ++ 10 ∷ text) in
        let room = length-append bytes (10 ∷ text) in
        of_lines whole ms (Some d)
        (rw (not_marked whole refl)
        (same_start (suc (length whole)) (no_nodes, []) text whole (skip_comment bytes text plain)
        ∙ more_steps (suc (length text)) (suc (length whole)) (no_nodes, []) d text (omega (arith, room)) is)) h

-- ## A printed document

-- begins with no byte order mark
pub printed_start : (es : List Expression) (text : List ℕ) → IsLinesText false false es text
    → (first text == 239) ≡ false
printed_start [] text h = rw h
printed_start ((key, key_value d) ∷ es) text h =
    let (this, rest, whole, (v, line_is, value), more) = h in
    let s = dotted_text key ++ (codes " = " ++ (v ++ 10 ∷ rest)) in
    let start : is_key_start (first s) ≡ true = simp append_assoc (key_start-path key.0 key.1 (codes " = " ++ (v ++ 10 ∷ rest))) in
    let same : text ≡ s = whole ∙ rw line_is (simp append_assoc refl) in
    rw same (grind (arith, nat_tests))
printed_start ((key, std_table) ∷ es) text h =
    let (this, rest, whole, line_is, more) = h in
    rw (whole, line_is)
printed_start ((key, array_table) ∷ es) text h =
    let (this, rest, whole, line_is, more) = h in
    rw (whole, line_is)

-- ## Numbers in a comment

glyph_plain : (upper : Bool) (d : ℕ) → d < 16 → is_non_eol (digit_glyph upper d) ≡ true
glyph_plain true d h = grind (arith, nat_tests)
glyph_plain false d h = grind (arith, nat_tests)

onto_plain : (k base : ℕ) (upper : Bool) (n : ℕ) (acc : List ℕ) → 0 < base → base ≤ 16 → IsPlainLine acc
    → IsPlainLine (digits_onto k base upper n acc)
onto_plain zero base upper n acc some few h = h
onto_plain (suc k) base upper n acc some few h =
    let low : n % base < base = omega (arith, some) in
    let glyph = glyph_plain upper (n % base) (omega (arith, low, few)) in
    let next : IsPlainLine (digit_glyph upper (n % base) ∷ acc) = rw (glyph, h) refl in
    by_last (n / base == 0) next (onto_plain k base upper (n / base) (digit_glyph upper (n % base) ∷ acc) some few next)
  where
    by_last : (b : Bool) → IsPlainLine (digit_glyph upper (n % base) ∷ acc)
        → IsPlainLine (digits_onto k base upper (n / base) (digit_glyph upper (n % base) ∷ acc))
        → IsPlainLine (cond b (digit_glyph upper (n % base) ∷ acc) (digits_onto k base upper (n / base) (digit_glyph upper (n % base) ∷ acc)))
    by_last true a b = a
    by_last false a b = b

pub digits_plain : (base : ℕ) (upper : Bool) (n : ℕ) → 0 < base → base ≤ 16 → IsPlainLine (digits base upper n)
unfolding digits
digits_plain base upper n some few = onto_plain 64 base upper n [] some few refl

pub both_plain : (a b : List ℕ) → IsPlainLine a → IsPlainLine b → IsPlainLine (a ++ b)
both_plain a b h k = list_all-append is_non_eol a b ∙ rw (h, k) refl
