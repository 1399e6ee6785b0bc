-- The text of a certificate, section by section.
use Rattle.std.proofs.Common.{◌≡◌, ◌∙◌, ◌==◌, ℕ, List, [], ◌∷◌, ◌++◌, Bool, true, Vec, codes, map, refl, sym, ap, append-nil, Result, Ok, Err, OnOk, ◌<◌, length, take, drop, take-append-drop, get_or, arith, if◌then◌else◌}
use Rattle.std.specs.Prelude.{MatchResult, OnErr, false}
use Rattle.certificate.specs.declared.line.Version.TheVariants.{One, Two}
use Rattle.certificate.proofs.NumberLaws.{after_first, after_first_is}
use Rattle.std.specs.declared.rc.Rc.{Rc}
use Rattle.std.specs.List.{flat_map, join_with_byte}
use Rattle.std.specs.Fmt.{decimal}
use Rattle.std.specs.declared.alloc.Global.{Global}
use Rattle.std.specs.Cmp.Lexicographic.{pointwise}
use Rattle.std.proofs.lemmas.Grind.{flat_map-append}
use Rattle.std.proofs.lemmas.List.Folds.{flat_map-map}
use Rattle.bus_ticks.specs.Numbers.{profile_one}
use Rattle.control_flow.specs.declared.edges.Edge.{Edge}
use Rattle.longest_walk.specs.declared.folded.Item.{Item}
use Rattle.longest_walk.specs.declared.folded.Item.TheOpen.{Item-F}
use Rattle.longest_walk.specs.declared.folded.Item.TheVariants.{Step, Repeat, rolls-Step, rolls-Repeat}
use Rattle.longest_walk.specs.declared.folded.Item.TheFolds.{fold-Item, fold-roll-Item}
use Rattle.longest_walk.specs.declared.rows.PlaceRow.{PlaceRow}
use Rattle.longest_walk.specs.declared.rows.InstanceRow.{InstanceRow}
use Rattle.certificate.specs.declared.line.WalkLine.{WalkLine}
use Rattle.certificate.specs.declared.line.WalkLine.TheVariants as w
use Rattle.certificate.specs.declared.line.Line.{Line}
use Rattle.certificate.specs.declared.line.Line.TheVariants as l
use Rattle.certificate.specs.Lines.{Said, cert_text, head_lines}
use Rattle.certificate.specs.Walk.{item_lines, item_step, repeated_lines, step_of, walk_lines}
use Rattle.asm_text.specs.Hex.{hex}
use Rattle.certificate.specs.Words.{ended, instance_words, line_words, list_words, place_words, text_of, walk_words}
use Rattle.certificate.specs.Written.{head_text, instances_text, places_text, walk_text}

-- ## The walk

pub lines-step : (e : Edge) → item_lines (Step e) ≡ w.Step (step_of e) ∷ []
lines-step e = ap (fold-Item (List WalkLine) item_step) (sym (rolls-Step e)) ∙ fold-roll-Item (List WalkLine) item_step (Item-F.Step e)

pub text-repeat : (k : ℕ) (body : Rc (Vec Item Global) Global) → walk_text (item_lines (Repeat k body)) ≡ ended (codes "repeat " ++ decimal k) ++ (walk_text (walk_lines body.value.items) ++ codes "end\n")
text-repeat k body =
    ap walk_text (ap (fold-Item (List WalkLine) item_step) (sym (rolls-Repeat k body)) ∙ fold-roll-Item (List WalkLine) item_step (Item-F.Repeat k body) ∙ ap (repeated_lines k) (flat_map-map (λ x. x) item_lines body.value.items))
    ∙ ap (λ (t : List ℕ). ended (codes "repeat " ++ decimal k) ++ t) (flat_map-append (λ x. ended (walk_words x)) (walk_lines body.value.items) (w.End ∷ []))

-- ## Calls and prices

pub joined_after : (mark : ℕ) (spell : ℕ → List ℕ) (n : ℕ) (ns : List ℕ) → join_with_byte mark (map spell (n ∷ ns)) ≡ spell n ++ flat_map (λ x. mark ∷ spell x) ns
joined_after mark spell n [] = sym (append-nil (spell n))
joined_after mark spell n (m ∷ ns) = ap (λ (t : List ℕ). spell n ++ mark ∷ t) (joined_after mark spell m ns)

-- ## The whole

walk_part : (ws : List WalkLine) → text_of (map l.Walk ws) ≡ walk_text ws
walk_part [] = refl
walk_part (x ∷ ws) = ap (λ (t : List ℕ). ended (walk_words x) ++ t) (walk_part ws)

places_part : (rows : List PlaceRow) → text_of (map l.Place rows) ≡ places_text rows
places_part [] = refl
places_part (r ∷ rows) = ap (λ (t : List ℕ). ended (place_words r) ++ t) (places_part rows)

instances_part : (rows : List InstanceRow) → text_of (map l.Instance rows) ≡ instances_text rows
instances_part [] = refl
instances_part (r ∷ rows) = ap (λ (t : List ℕ). ended (instance_words r) ++ t) (instances_part rows)

text_of-append : (xs ys : List Line) → text_of (xs ++ ys) ≡ text_of xs ++ text_of ys
text_of-append xs ys = flat_map-append (λ x. ended (line_words x)) xs ys

pub sections : (c : Said) → cert_text c ≡ head_text c.numbers ++ (ended (codes "bound " ++ decimal c.bound) ++ (walk_text c.walk ++ (codes "close\n" ++ (places_text c.places ++ (instances_text c.instances ++ codes "stop\n")))))
sections c =
    text_of-append (head_lines c.numbers) _
    ∙ ap (λ (t : List ℕ). head_text c.numbers ++ (ended (codes "bound " ++ decimal c.bound) ++ t)) (text_of-append (map l.Walk c.walk) _ ∙ ap (λ (t : List ℕ). t ++ text_of (l.Close ∷ (map l.Place c.places ++ (map l.Instance c.instances ++ l.Stop ∷ [])))) (walk_part c.walk)
    ∙ ap (λ (t : List ℕ). walk_text c.walk ++ (codes "close\n" ++ t)) (text_of-append (map l.Place c.places) _ ∙ ap (λ (t : List ℕ). t ++ text_of (map l.Instance c.instances ++ l.Stop ∷ [])) (places_part c.places)
    ∙ ap (λ (t : List ℕ). places_text c.places ++ t) (text_of-append (map l.Instance c.instances) (l.Stop ∷ []) ∙ ap (λ (t : List ℕ). t ++ codes "stop\n") (instances_part c.instances))))

-- ## Lists that are written word by word

pub listed : (calls : List ℕ) → 0 < length calls
    → list_words calls ≡ hex (get_or calls 0 0) ++ flat_map (λ c. 47 ∷ hex c) (after_first calls)
listed [] some = absurd (omega arith)
listed (x ∷ xs) some =
    joined_after 47 hex x xs
    ∙ ap (λ (ys : List ℕ). hex x ++ flat_map (λ c. 47 ∷ hex c) ys) (sym (after_first_is x xs))

pub head_other : (ns : List ℕ) → length ns ≡ 15 → pointwise ◌==◌ ns profile_one ≡ false → head_text ns ≡ codes "arcwcet certificate 2\nprofile" ++ (flat_map (λ n. 32 ∷ decimal n) ns ++ codes "\n")
head_other [] n other = absurd (omega (arith, n))
head_other (x ∷ ns) n other =
    ap (λ (b : Bool). text_of (if b then l.Title One ∷ [] else l.Title Two ∷ l.Profile (x ∷ ns) ∷ [])) other
    ∙ ap (λ (t : List ℕ). codes "arcwcet certificate 2\nprofile " ++ t) (append-nil (join_with_byte 32 (map decimal (x ∷ ns)) ++ codes "\n") ∙ ap (λ (t : List ℕ). t ++ codes "\n") (joined_after 32 decimal x ns))

-- ## On the way to an output

pub head_one : (ns : List ℕ) → pointwise ◌==◌ ns profile_one ≡ true → codes "arcwcet certificate 1\n" ≡ head_text ns
head_one ns same = sym (ap (λ (b : Bool). text_of (if b then l.Title One ∷ [] else l.Title Two ∷ l.Profile ns ∷ [])) same)

-- a walk's text is that of its first items, and then that of the others
pub walk_parts : (items : List Item) (i : ℕ) → walk_text (walk_lines (take i items)) ++ walk_text (walk_lines (drop i items)) ≡ walk_text (walk_lines items)
walk_parts items i =
    sym (flat_map-append (λ w. ended (walk_words w)) (walk_lines (take i items)) (walk_lines (drop i items)))
    ∙ ap walk_text (sym (flat_map-append item_lines (take i items) (drop i items)) ∙ ap walk_lines (take-append-drop i items))

pub ok_first : {T E : Type 0} (r : Result T E) (P Q R S : Type 0) → MatchResult r (λ _. P × Q) (λ _. R × S) → OnOk r P
ok_first (Ok x) P Q R S m = m.0
ok_first (Err e) P Q R S m = tt

pub ok_second : {T E : Type 0} (r : Result T E) (P Q R S : Type 0) → MatchResult r (λ _. P × Q) (λ _. R × S) → OnOk r Q
ok_second (Ok x) P Q R S m = m.1
ok_second (Err e) P Q R S m = tt

pub err_first : {T E : Type 0} (r : Result T E) (P Q R S : Type 0) → MatchResult r (λ _. P × Q) (λ _. R × S) → OnErr r R
err_first (Ok x) P Q R S m = tt
err_first (Err e) P Q R S m = m.0

pub err_second : {T E : Type 0} (r : Result T E) (P Q R S : Type 0) → MatchResult r (λ _. P × Q) (λ _. R × S) → OnErr r S
err_second (Ok x) P Q R S m = tt
err_second (Err e) P Q R S m = m.1
