-- The words of an edge are ASCII.
use Rattle.std.proofs.Common.{ℕ, zero, suc, ◌/◌, ◌%◌, ◌==◌, ◌<◌, Bool, true, false, if◌then◌else◌}
use Rattle.std.proofs.Common.{List, [], ◌∷◌, ◌++◌, arith, codes}
use Rattle.std.specs.Fmt.{decimal, digits, digits_onto, digit_glyph}
use Rattle.std.specs.Str.{IsAscii, IsUtf8}
use Rattle.std.proofs.ByRecursion.{IsAscii-from_all}
use Rattle.std.proofs.lemmas.Bool.Decides.{nat_tests}
use Rattle.std.proofs.lemmas.Str.{IsAscii-append, IsUtf8-from_ascii}
use Rattle.std.proofs.lemmas.Str.Ascii.{IsAscii-cons, IsAscii-nil, IsAscii-push}
use Rattle.asm_text.specs.Hex.{hex}
use Rattle.control_flow.specs.declared.edges.Label.{Label}
use Rattle.control_flow.specs.declared.edges.Label.TheVariants.{Do, Skip}
use Rattle.certificate.specs.declared.walk.To.{To}
use Rattle.certificate.specs.declared.walk.To.TheVariants.{At, Exit}
use Rattle.certificate.specs.declared.walk.StepLine.{StepLine}
use Rattle.certificate.specs.Words.{edge_words, ended, label_words, to_words}

glyph_ascii : (upper : Bool) (d : ℕ) → d < 16 → digit_glyph upper d < 128
glyph_ascii upper d lt = grind (arith, nat_tests)

either : (b : Bool) (xs ys : List ℕ) → IsAscii xs → IsAscii ys → IsAscii (if b then xs else ys)
either true xs ys x y = x
either false xs ys x y = y

onto_ascii : (base : ℕ) (upper : Bool) → ((n : ℕ) → digit_glyph upper (n % base) < 128) → (k n : ℕ) (acc : List ℕ)
    → IsAscii acc → IsAscii (digits_onto k base upper n acc)
onto_ascii base upper low zero n acc ascii = ascii
onto_ascii base upper low (suc k) n acc ascii =
    let longer = digit_glyph upper (n % base) ∷ acc in
    let all = IsAscii-cons (digit_glyph upper (n % base)) acc (low n) ascii in
    either (n / base == 0) longer (digits_onto k base upper (n / base) longer) all
    (onto_ascii base upper low k (n / base) longer all)

hex_ascii : (n : ℕ) → IsAscii (hex n)
unfolding digits
hex_ascii n = onto_ascii 16 true (λ n. glyph_ascii true (n % 16) (omega arith)) 64 n [] IsAscii-nil

decimal_ascii : (n : ℕ) → IsAscii (decimal n)
unfolding digits
decimal_ascii n = onto_ascii 10 false (λ n. glyph_ascii false (n % 10) (omega arith)) 64 n [] IsAscii-nil

label_ascii : (l : Label) → IsAscii (label_words l)
label_ascii Do = IsAscii-from_all (codes "do") (omega arith, (omega arith, tt))
label_ascii Skip = IsAscii-from_all (codes "skip") (omega arith, (omega arith, (omega arith, (omega arith, tt))))

to_ascii : (to : To) → IsAscii (to_words to)
to_ascii (At a) = hex_ascii a
to_ascii Exit = IsAscii-from_all (codes "exit") (omega arith, (omega arith, (omega arith, (omega arith, tt))))

-- words, a blank and more
parted_ascii : (words more : List ℕ) → IsAscii words → IsAscii more → IsAscii (words ++ 32 ∷ more)
parted_ascii words more first rest =
    IsAscii-append words (32 ∷ more) first (IsAscii-cons 32 more (omega arith) rest)

pub edge_utf8 : (s : StepLine) → IsUtf8 (ended (edge_words s))
edge_utf8 s =
    let target = to_words s.to ++ 32 ∷ decimal s.cost in
    let label = label_words s.label ++ 32 ∷ target in
    let ascii : IsAscii (edge_words s) =
    parted_ascii (hex s.address) label (hex_ascii s.address)
    (parted_ascii (label_words s.label) target (label_ascii s.label)
    (parted_ascii (to_words s.to) (decimal s.cost) (to_ascii s.to) (decimal_ascii s.cost))) in
    IsUtf8-from_ascii (ended (edge_words s)) (IsAscii-push (edge_words s) 10 ascii (omega arith))
