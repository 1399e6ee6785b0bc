-- Lines are read from their text in one way.
use Rattle.std.proofs.Common.{◌≡◌, ◌∙◌, ℕ, ◌<◌, List, [], ◌∷◌, ◌++◌, codes, drop, map, refl, sym, ap, ap₂, subst, arith, append_assoc, append-nil, get_or, eqb, eq-eqb, ◌*◌, ◌+◌, true≢false, false}
use Rattle.std.specs.Fmt.{decimal}
use Rattle.std.specs.List.{AllByRecursion, join_with_byte}
use Rattle.std.proofs.lemmas.List.Elements.{recursion_from_All}
use Rattle.std.specs.Str.Iter.{LacksByte}
use Rattle.longest_walk.specs.declared.rows.PlaceRow.{PlaceRow}
use Rattle.longest_walk.specs.declared.rows.InstanceRow.{InstanceRow}
use Rattle.control_flow.specs.declared.edges.Label.{Label}
use Rattle.control_flow.specs.declared.edges.Label.TheVariants.{Skip, Do}
use Rattle.certificate.specs.declared.walk.StepLine.{StepLine}
use Rattle.certificate.specs.declared.line.Version.{Version}
use Rattle.certificate.specs.declared.line.Version.TheVariants.{One, Two}
use Rattle.certificate.specs.declared.line.WalkLine.{WalkLine}
use Rattle.certificate.specs.declared.line.WalkLine.TheVariants as w
use Rattle.certificate.specs.declared.line.Line.{Line}
use Rattle.certificate.specs.declared.line.Line.TheVariants as l
use Rattle.asm_text.specs.Hex.{hex}
use Rattle.certificate.specs.Words.{InstanceFits, LineFits, PlaceFits, StepFits, WalkFits, ended, instance_words, label_words, line_words, list_words, place_words, step_words, text_of, title_words, to_words, walk_words}
use Rattle.certificate.proofs.CutLaws.{Lacks-append, Lacks-middle, Lacks-tested, one_cut}
use Rattle.certificate.proofs.FieldLaws.{decimal-end, decimal_first, hex-end, hex_first, joined_lacks, label_first, list-end, list_first, to-end, to_first}
use Rattle.certificate.proofs.NumberLaws.{decimal_is_one}
use Rattle.certificate.proofs.PriceLaws.{one_prices, profile_small}

-- ## No line feed is in a line

-- a field, a blank and the rest
field-end : (field rest : List ℕ) → LacksByte 10 field → LacksByte 10 rest → LacksByte 10 (field ++ 32 ∷ rest)
field-end field rest f r = Lacks-append 10 field (32 ∷ rest) f (Lacks-append 10 (32 ∷ []) rest (Lacks-tested 10 (32 ∷ []) refl) r)

label-end : (label : Label) → LacksByte 10 (label_words label)
label-end Do = Lacks-tested 10 (codes "do") refl
label-end Skip = Lacks-tested 10 (codes "skip") refl

title-end : (v : Version) → LacksByte 10 (title_words v)
title-end One = Lacks-tested 10 (codes "arcwcet certificate 1") refl
title-end Two = Lacks-tested 10 (codes "arcwcet certificate 2") refl

prices-end : (ns : List ℕ) → AllByRecursion (λ n. n < 256) ns → AllByRecursion (LacksByte 10) (map decimal ns)
prices-end [] small = tt
prices-end (n ∷ ns) small = (decimal-end n (omega (arith, small.0)), prices-end ns small.1)

walk-end : (x : WalkLine) → WalkFits x → LacksByte 10 (walk_words x)
walk-end (w.Step s) fits =
    Lacks-append 10 (codes "step ") (hex s.address ++ 32 ∷ (label_words s.label ++ 32 ∷ (to_words s.to ++ 32 ∷ decimal s.cost))) (Lacks-tested 10 (codes "step ") refl)
    (field-end (hex s.address) _ (hex-end s.address fits.address) (field-end (label_words s.label) _ (label-end s.label) (field-end (to_words s.to) _ (to-end s.to fits.to) (decimal-end s.cost fits.cost))))
walk-end (w.Repeat k) fits = Lacks-append 10 (codes "repeat ") (decimal k) (Lacks-tested 10 (codes "repeat ") refl) (decimal-end k (omega (arith, fits.1)))
walk-end w.End fits = Lacks-tested 10 (codes "end") refl

pub line-end : (x : Line) → LineFits x → LacksByte 10 (line_words x)
line-end (l.Title v) fits = title-end v
line-end (l.Profile ns) fits =
    Lacks-append 10 (codes "profile ") (join_with_byte 32 (map decimal ns)) (Lacks-tested 10 (codes "profile ") refl)
    (joined_lacks 10 32 (map decimal ns) (Lacks-tested 10 (32 ∷ []) refl) (prices-end ns (recursion_from_All _ ns (profile_small ns fits.0))))
line-end (l.Bound n) fits = Lacks-append 10 (codes "bound ") (decimal n) (Lacks-tested 10 (codes "bound ") refl) (decimal-end n fits)
line-end (l.Walk x) fits = walk-end x fits
line-end l.Close fits = Lacks-tested 10 (codes "close") refl
line-end (l.Place r) fits =
    Lacks-append 10 (codes "place ") (list_words r.list ++ 32 ∷ (hex r.address ++ 32 ∷ decimal r.distance)) (Lacks-tested 10 (codes "place ") refl)
    (field-end (list_words r.list) _ (list-end r.list (fits.place.1, fits.place.2)) (field-end (hex r.address) _ (hex-end r.address fits.place.0) (decimal-end r.distance fits.distance)))
line-end (l.Instance r) fits =
    Lacks-append 10 (codes "instance ") (list_words r.list ++ 32 ∷ (hex r.header ++ 32 ∷ (decimal r.arrival ++ 32 ∷ decimal r.round))) (Lacks-tested 10 (codes "instance ") refl)
    (field-end (list_words r.list) _ (list-end r.list (fits.header.1, fits.header.2)) (field-end (hex r.header) _ (hex-end r.header fits.header.0) (field-end (decimal r.arrival) _ (decimal-end r.arrival fits.arrival) (decimal-end r.round fits.round))))
line-end l.Stop fits = Lacks-tested 10 (codes "stop") refl

-- ## Lines of the same words say the same

differ : (key : List ℕ → ℕ) (a b : List ℕ) → eqb (key a) (key b) ≡ false → a ≡ b → ⊥
differ key a b other e = true≢false (sym (eq-eqb (key a) (key b) (ap key e)) ∙ other)

-- the first and the third byte tell lines of different kinds apart
apart : (a b : List ℕ) → eqb (get_or a 0 0 * 256 + get_or a 2 0) (get_or b 0 0 * 256 + get_or b 2 0) ≡ false → a ≡ b → ⊥
apart a b other e = differ (λ t. get_or t 0 0 * 256 + get_or t 2 0) a b other e

one_step : (s t : StepLine) → StepFits s → StepFits t → step_words s ≡ step_words t → s ≡ t
one_step s t f g e =
    let address = hex_first s.address t.address _ _ f.address g.address (ap (drop 5) e) in
    let label = label_first s.label t.label _ _ address.1 in
    let to = to_first s.to t.to _ _ f.to g.to label.1 in
    let cost = decimal_is_one s.cost t.cost f.cost g.cost to.1 in
    λ i. record { address = address.0 i; label = label.0 i; to = to.0 i; cost = cost i }

one_place : (r t : PlaceRow) → PlaceFits r → PlaceFits t → place_words r ≡ place_words t → r ≡ t
one_place r t f g e =
    let list = list_first r.list t.list _ _ (f.place.1, f.place.2) (g.place.1, g.place.2) (ap (drop 6) e) in
    let address = hex_first r.address t.address _ _ f.place.0 g.place.0 list.1 in
    let distance = decimal_is_one r.distance t.distance f.distance g.distance address.1 in
    λ i. record { list = list.0 i; address = address.0 i; distance = distance i }

one_instance : (r t : InstanceRow) → InstanceFits r → InstanceFits t → instance_words r ≡ instance_words t → r ≡ t
one_instance r t f g e =
    let list = list_first r.list t.list _ _ (f.header.1, f.header.2) (g.header.1, g.header.2) (ap (drop 9) e) in
    let header = hex_first r.header t.header _ _ f.header.0 g.header.0 list.1 in
    let arrival = decimal_first r.arrival t.arrival _ _ f.arrival g.arrival header.1 in
    let round = decimal_is_one r.round t.round f.round g.round arrival.1 in
    λ i. record { list = list.0 i; header = header.0 i; arrival = arrival.0 i; round = round i }

pub one_line : (x y : Line) → LineFits x → LineFits y → line_words x ≡ line_words y → x ≡ y
one_line (l.Title One) (l.Title One) f g e = refl
one_line (l.Title One) (l.Title Two) f g e = absurd (differ (λ t. get_or t 20 0) _ _ refl e)
one_line (l.Title Two) (l.Title One) f g e = absurd (differ (λ t. get_or t 20 0) _ _ refl e)
one_line (l.Title Two) (l.Title Two) f g e = refl
one_line (l.Profile ns) (l.Profile ms) f g e = ap (λ z. l.Profile z) (one_prices ns ms f.0.whole g.0.whole (profile_small ns f.0) (profile_small ms g.0) (ap (drop 8) e))
one_line (l.Bound n) (l.Bound m) f g e = ap (λ z. l.Bound z) (decimal_is_one n m f g (ap (drop 6) e))
one_line (l.Walk (w.Step s)) (l.Walk (w.Step t)) f g e = ap (λ z. l.Walk (w.Step z)) (one_step s t f g e)
one_line (l.Walk (w.Repeat k)) (l.Walk (w.Repeat n)) f g e = ap (λ z. l.Walk (w.Repeat z)) (decimal_is_one k n (omega (arith, f.1)) (omega (arith, g.1)) (ap (drop 7) e))
one_line (l.Walk w.End) (l.Walk w.End) f g e = refl
one_line l.Close l.Close f g e = refl
one_line (l.Place r) (l.Place t) f g e = ap (λ z. l.Place z) (one_place r t f g e)
one_line (l.Instance r) (l.Instance t) f g e = ap (λ z. l.Instance z) (one_instance r t f g e)
one_line l.Stop l.Stop f g e = refl
-- `apart` computes once the version and the kind of a walk's line are known
one_line x (l.Title One) f g e = absurd (apart _ _ refl e)
one_line x (l.Title Two) f g e = absurd (apart _ _ refl e)
one_line x (l.Walk (w.Step t)) f g e = absurd (apart _ _ refl e)
one_line x (l.Walk (w.Repeat n)) f g e = absurd (apart _ _ refl e)
one_line x (l.Walk w.End) f g e = absurd (apart _ _ refl e)
one_line x y f g e = absurd (apart _ _ refl e)

-- ## A text that begins with some lines

text_of-cons : (x : Line) (xs : List Line) (rest : List ℕ) → text_of (x ∷ xs) ++ rest ≡ line_words x ++ 10 ∷ (text_of xs ++ rest)
text_of-cons x xs rest = append_assoc (ended (line_words x)) (text_of xs) rest ∙ append_assoc (line_words x) (10 ∷ []) (text_of xs ++ rest)

pub record Begins (lines all : List Line) (rest : List ℕ) : Type 0 where
  pub more : List Line
  pub all_are : all ≡ lines ++ more
  pub rest_is : rest ≡ text_of more

pub begins : (lines all : List Line) (rest : List ℕ) → AllByRecursion LineFits lines → AllByRecursion LineFits all → text_of all ≡ text_of lines ++ rest → Begins lines all rest
begins [] all rest f g e = record { more = all; all_are = refl; rest_is = sym e }
begins (x ∷ lines) [] rest f g e = absurd (nothing (line_words x) (text_of lines ++ rest) (e ∙ text_of-cons x lines rest))
  where
    nothing : (a b : List ℕ) → [] ≡ a ++ 10 ∷ b → ⊥
    nothing [] b h = cc h
    nothing (y ∷ a) b h = cc h
begins (x ∷ lines) (y ∷ all) rest f g e =
    let head : line_words y ++ 10 ∷ text_of all ≡ line_words x ++ 10 ∷ (text_of lines ++ rest) = sym (append_assoc (line_words y) (10 ∷ []) (text_of all)) ∙ e ∙ text_of-cons x lines rest in
    let cut = one_cut 10 (line_words y) (line_words x) (text_of all) (text_of lines ++ rest) (line-end y g.0) (line-end x f.0) head in
    let deeper = begins lines all rest f.1 g.1 cut.1 in
    record { more = deeper.more; all_are = ap₂ (λ (z : Line) (zs : List Line). z ∷ zs) (one_line y x g.0 f.0 cut.0) deeper.all_are; rest_is = deeper.rest_is }

-- a line that the text goes on with
pub record Next (more : List Line) (words rest : List ℕ) : Type 0 where
  pub line : Line
  pub left : List Line
  pub more_are : more ≡ line ∷ left
  pub words_are : words ≡ line_words line

pub next_line : (more : List Line) (words rest : List ℕ) → AllByRecursion LineFits more → LacksByte 10 words → text_of more ≡ ended words ++ rest → Next more words rest
next_line [] words rest g lacks e = absurd (nothing words rest (e ∙ append_assoc words (10 ∷ []) rest))
  where
    nothing : (a b : List ℕ) → [] ≡ a ++ 10 ∷ b → ⊥
    nothing [] b h = cc h
    nothing (y ∷ a) b h = cc h
next_line (y ∷ more) words rest g lacks e =
    let cut = one_cut 10 (line_words y) words (text_of more) rest (line-end y g.0) lacks (sym (append_assoc (line_words y) (10 ∷ []) (text_of more)) ∙ e ∙ append_assoc words (10 ∷ []) rest) in
    record { line = y; left = more; more_are = refl; words_are = sym cut.0 }

-- lines do not end within a line
pub no_line : (more : List Line) (rest : List ℕ) → LacksByte 10 rest → rest ≡ text_of more → more ≡ []
no_line [] rest lacks e = refl
no_line (y ∷ more) rest lacks e = absurd (Lacks-middle 10 (line_words y) (text_of more) (subst (LacksByte 10) (e ∙ append_assoc (line_words y) (10 ∷ []) (text_of more)) lacks))

-- lines have one text
pub one_text : (xs ys : List Line) → AllByRecursion LineFits xs → AllByRecursion LineFits ys → text_of xs ≡ text_of ys → xs ≡ ys
one_text xs ys f g e =
    let b = begins ys xs [] g f (e ∙ sym (append-nil (text_of ys))) in
    let none : b.more ≡ [] = no_line b.more [] (λ k lt. absurd (omega (arith, lt))) b.rest_is in
    b.all_are ∙ ap (λ (z : List Line). ys ++ z) none ∙ append-nil ys
