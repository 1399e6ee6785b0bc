-- The first field of some words is read in one way.
use Rattle.std.proofs.Common.{◌≡◌, ◌∙◌, ℕ, ◌<◌, ◌^◌, List, [], ◌∷◌, ◌++◌, map, codes, Option, None, MatchOption, refl, sym, ap, subst, arith}
use Rattle.std.specs.List.{AllByRecursion, join_with_byte}
use Rattle.std.specs.Fmt.{decimal}
use Rattle.std.proofs.lemmas.List.Elements.{recursion_from_All}
use Rattle.std.specs.Str.Iter.{LacksByte}
use Rattle.control_flow.specs.declared.edges.Label.{Label}
use Rattle.control_flow.specs.declared.edges.Label.TheVariants.{Skip, Do}
use Rattle.certificate.specs.declared.walk.To.{To}
use Rattle.certificate.specs.declared.walk.To.TheVariants.{At, Exit}
use Rattle.asm_text.specs.Hex.{hex}
use Rattle.certificate.specs.Words.{AreCalls, ToFits, label_words, list_words, to_words}
use Rattle.certificate.proofs.CutLaws.{Lacks-append, Lacks-middle, Lacks-tested, one_cut}
use Rattle.certificate.proofs.JoinLaws.{map_one, one_join}
use Rattle.certificate.proofs.NumberLaws.{decimal_is_one, decimal_lacks, hex_is_one, hex_lacks}

-- ## What fields lack

pub hex-blank : (n : ℕ) → n < 2 ^ 26 → LacksByte 32 (hex n)
hex-blank n h = hex_lacks 32 n (omega arith) h

pub hex-slash : (n : ℕ) → n < 2 ^ 26 → LacksByte 47 (hex n)
hex-slash n h = hex_lacks 47 n (omega arith) h

pub hex-end : (n : ℕ) → n < 2 ^ 26 → LacksByte 10 (hex n)
hex-end n h = hex_lacks 10 n (omega arith) h

pub decimal-blank : (n : ℕ) → n < 2 ^ 63 → LacksByte 32 (decimal n)
decimal-blank n h = decimal_lacks 32 n (omega arith) h

pub decimal-end : (n : ℕ) → n < 2 ^ 63 → LacksByte 10 (decimal n)
decimal-end n h = decimal_lacks 10 n (omega arith) h

pub label-lacks_blank : (label : Label) → LacksByte 32 (label_words label)
label-lacks_blank Do = Lacks-tested 32 (codes "do") refl
label-lacks_blank Skip = Lacks-tested 32 (codes "skip") refl

pub to-blank : (to : To) → ToFits to → LacksByte 32 (to_words to)
to-blank (At a) fits = hex-blank a fits
to-blank Exit fits = Lacks-tested 32 (codes "exit") refl

abbrev AllSmall : List ℕ → Type 0
AllSmall calls = AllByRecursion (λ c. c < 2 ^ 26) calls

pub all_lack : (c : ℕ) (calls : List ℕ) → ((n : ℕ) → n < 2 ^ 26 → LacksByte c (hex n)) → AllSmall calls → AllByRecursion (LacksByte c) (map hex calls)
all_lack c [] each small = tt
all_lack c (a ∷ calls) each small = (each a small.0, all_lack c calls each small.1)

pub joined_lacks : (c mark : ℕ) (ws : List (List ℕ)) → LacksByte c (mark ∷ []) → AllByRecursion (LacksByte c) ws → LacksByte c (join_with_byte mark ws)
joined_lacks c mark [] other lacks = λ k lt. absurd (omega arith)
joined_lacks c mark (w ∷ []) other lacks = lacks.0
joined_lacks c mark (w ∷ v ∷ ws) other lacks = Lacks-append c w (mark ∷ join_with_byte mark (v ∷ ws)) lacks.0 (Lacks-append c (mark ∷ []) (join_with_byte mark (v ∷ ws)) other (joined_lacks c mark (v ∷ ws) other lacks.1))

pub list-lacks : (c : ℕ) (calls : List ℕ) → LacksByte c (codes "-") → LacksByte c (codes "/") → ((n : ℕ) → n < 2 ^ 26 → LacksByte c (hex n)) → AllSmall calls → LacksByte c (list_words calls)
list-lacks c [] none other each small = none
list-lacks c (a ∷ calls) none other each small = joined_lacks c 47 (map hex (a ∷ calls)) other (all_lack c (a ∷ calls) each small)

pub list-blank : (calls : List ℕ) → AreCalls calls → LacksByte 32 (list_words calls)
list-blank calls fits = list-lacks 32 calls (Lacks-tested 32 (codes "-") refl) (Lacks-tested 32 (codes "/") refl) hex-blank (recursion_from_All _ calls fits.1)

pub list-end : (calls : List ℕ) → AreCalls calls → LacksByte 10 (list_words calls)
list-end calls fits = list-lacks 10 calls (Lacks-tested 10 (codes "-") refl) (Lacks-tested 10 (codes "/") refl) hex-end (recursion_from_All _ calls fits.1)

pub to-end : (to : To) → ToFits to → LacksByte 10 (to_words to)
to-end (At a) fits = hex-end a fits
to-end Exit fits = Lacks-tested 10 (codes "exit") refl

-- ## One reading

pub one_label : (x y : Label) → label_words x ≡ label_words y → x ≡ y
one_label Do Do e = refl
one_label Do Skip e = absurd (cc e)
one_label Skip Do e = absurd (cc e)
one_label Skip Skip e = refl

some_listed : (a : ℕ) (calls : List ℕ) → AllSmall (a ∷ calls) → list_words (a ∷ calls) ≡ codes "-" → ⊥
some_listed a calls small e =
    let lacks : LacksByte 45 (list_words (a ∷ calls)) = joined_lacks 45 47 (map hex (a ∷ calls)) (Lacks-tested 45 (47 ∷ []) refl) (all_lack 45 (a ∷ calls) (λ n h. hex_lacks 45 n (omega arith) h) small) in
    subst (LacksByte 45) e lacks 0 (omega arith) refl

one_list : (xs ys : List ℕ) → AllSmall xs → AllSmall ys → list_words xs ≡ list_words ys → xs ≡ ys
one_list [] [] f g e = refl
one_list [] (y ∷ ys) f g e = absurd (some_listed y ys g (sym e))
one_list (x ∷ xs) [] f g e = absurd (some_listed x xs f e)
one_list (x ∷ xs) (y ∷ ys) f g e =
    map_one (λ n. n < 2 ^ 26) hex hex_is_one (x ∷ xs) (y ∷ ys) f g (one_join 47 (hex x) (hex y) (map hex xs) (map hex ys) (all_lack 47 (x ∷ xs) hex-slash f) (all_lack 47 (y ∷ ys) hex-slash g) e)

pub hex_first : (a b : ℕ) (r s : List ℕ) → a < 2 ^ 26 → b < 2 ^ 26 → hex a ++ 32 ∷ r ≡ hex b ++ 32 ∷ s → (a ≡ b) × (r ≡ s)
hex_first a b r s f g e =
    let cut = one_cut 32 (hex a) (hex b) r s (hex-blank a f) (hex-blank b g) e in
    (hex_is_one a b f g cut.0, cut.1)

pub decimal_first : (a b : ℕ) (r s : List ℕ) → a < 2 ^ 63 → b < 2 ^ 63 → decimal a ++ 32 ∷ r ≡ decimal b ++ 32 ∷ s → (a ≡ b) × (r ≡ s)
decimal_first a b r s f g e =
    let cut = one_cut 32 (decimal a) (decimal b) r s (decimal-blank a f) (decimal-blank b g) e in
    (decimal_is_one a b f g cut.0, cut.1)

pub label_first : (a b : Label) (r s : List ℕ) → label_words a ++ 32 ∷ r ≡ label_words b ++ 32 ∷ s → (a ≡ b) × (r ≡ s)
label_first a b r s e =
    let cut = one_cut 32 (label_words a) (label_words b) r s (label-lacks_blank a) (label-lacks_blank b) e in
    (one_label a b cut.0, cut.1)

-- no hex number is the word `exit`
hex_no_exit : (a : ℕ) → a < 2 ^ 26 → hex a ≡ codes "exit" → ⊥
hex_no_exit a small e = subst (LacksByte 120) e (hex_lacks 120 a (omega arith) small) 1 (omega arith) refl

one_to : (x y : To) → ToFits x → ToFits y → to_words x ≡ to_words y → x ≡ y
one_to (At a) (At b) f g e = ap (λ (n : ℕ). At n) (hex_is_one a b f g e)
one_to (At a) Exit f g e = absurd (hex_no_exit a f e)
one_to Exit (At b) f g e = absurd (hex_no_exit b g (sym e))
one_to Exit Exit f g e = refl

pub to_first : (a b : To) (r s : List ℕ) → ToFits a → ToFits b → to_words a ++ 32 ∷ r ≡ to_words b ++ 32 ∷ s → (a ≡ b) × (r ≡ s)
to_first a b r s f g e =
    let cut = one_cut 32 (to_words a) (to_words b) r s (to-blank a f) (to-blank b g) e in
    (one_to a b f g cut.0, cut.1)

pub list_first : (a b : List ℕ) (r s : List ℕ) → AreCalls a → AreCalls b → list_words a ++ 32 ∷ r ≡ list_words b ++ 32 ∷ s → (a ≡ b) × (r ≡ s)
list_first a b r s f g e =
    let cut = one_cut 32 (list_words a) (list_words b) r s (list-blank a f) (list-blank b g) e in
    (one_list a b (recursion_from_All _ a f.1) (recursion_from_All _ b g.1) cut.0, cut.1)

-- ## What is not found

pub from_none : {A : Type 0} (P : Type 0) (Q : A → Type 0) (r : Option A) → r ≡ None → P → MatchOption r P Q
from_none P Q r is p = subst (λ (o : Option _). MatchOption o P Q) (sym is) p

-- ## The first word

module _ {A : Type 0} (Fits : A → Type 0) (spell : A → List ℕ) where
  -- no word ends at a blank
  pub no_word : (words : List ℕ) → LacksByte 32 words → (a : A) (rest : List ℕ) → Fits a → words ≡ spell a ++ 32 ∷ rest → ⊥
  no_word words lacks a rest fits e = Lacks-middle 32 (spell a) rest (subst (LacksByte 32) e lacks)

  -- the first word is another one
  pub other_word : ((a : A) → Fits a → LacksByte 32 (spell a)) → (words word rest : List ℕ) → LacksByte 32 word → words ≡ word ++ 32 ∷ rest
      → ((a : A) → Fits a → word ≡ spell a → ⊥) → (a : A) (more : List ℕ) → Fits a → words ≡ spell a ++ 32 ∷ more → ⊥
  other_word blank words word rest lacks is other a more fits e =
      other a fits (one_cut 32 word (spell a) rest more lacks (blank a fits) (sym is ∙ e)).0
