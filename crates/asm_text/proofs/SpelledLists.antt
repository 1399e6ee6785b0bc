-- Lists of registers and of values are read as they are spelled.
use Rattle.std.proofs.Common.{◌≡◌, ◌≤◌, ℕ, Bool, true, false, List, [], ◌∷◌, ◌++◌, Option, Some, None, refl, sym, ap, subst, ◌∙◌, inl, inr, ◌⊎◌, append_assoc, arith, map}
use Rattle.std.specs.Prelude.{◌==◌, ◌||◌, nat_le, nat_lt, length, bit_or, option_map, option_and_then}
use Rattle.std.specs.Char.{is_ascii_alphabetic, is_digit}
use Rattle.std.specs.List.{cons_option, fold}
use Rattle.std.proofs.Common.{eqb-true}
use Rattle.std.proofs.lemmas.Bool.{and_parts, cases_Bool}
use Rattle.std.proofs.lemmas.Bool.Decides.{nat_tests}
use Rattle.arm2_decode.specs.declared.names.Register.{Register}
use Rattle.arm2_decode.specs.Names.{register_number}
use Rattle.asm_text.specs.Pieces.{Piece, Run, Comma, Sign}
use Rattle.asm_text.specs.Numbers.{first_hex, number_by, read_number, with_rest}
use Rattle.asm_text.specs.Registers.{first_register, register_of}
use Rattle.asm_text.specs.Operands.{after_step, block, block_based, block_of, braced, caret_of, list_from, list_by, run_bits, with_bits}
use Rattle.asm_text.specs.Statements.{is_label, only_target, run_target, target_by, values_in}
use Rattle.asm_text.specs.Said.{Target, Number, Label}
use Rattle.asm_text.specs.SpelledOperands.{IsDigits, IsRegister, Listed, SpellsBlock, SpellsNumber, SpellsRun, all_bits, bits_of, mark_if}
use Rattle.asm_text.specs.Spelling.{SpellsTarget}
use Rattle.asm_text.specs.declared.token.Mark.TheVariants.{Minus, Bang, Caret, Ampersand, OpenBrace, CloseBrace}
use Rattle.asm_text.specs.declared.names.Suffix.{Suffix}
use Rattle.asm_text.specs.declared.list.ListPlace.{ListPlace}
use Rattle.asm_text.specs.declared.list.ListPlace.TheVariants as place
use Rattle.asm_text.specs.declared.list.Step.{Step}
use Rattle.asm_text.specs.declared.list.Step.TheVariants as step
use Rattle.asm_text.specs.declared.syntax.BlockTransfer.{BlockTransfer}
use Rattle.asm_text.specs.declared.statement.Expects.{Expects}
use Rattle.asm_text.specs.declared.statement.Expects.TheVariants as expects
use Rattle.std.proofs.lemmas.List.{append-nil}
use Rattle.std.proofs.lemmas.Option.{none-some, same_Some}
use Rattle.asm_text.proofs.WordLaws.{chosen, map_is}
use Rattle.asm_text.proofs.SpelledNames.{and_then_is, digits_again, digits_is, front_register, number_again, number_front, number_is, register_again, register_front, register_is, whole_is, with_rest_is}

-- ## A list, one more in front

pub listed_more : {A : Type 0} (spells : A → List Piece → Type 0) (a : A) (more : List A) (first rest : List Piece) → spells a first → Listed spells more rest → Listed spells (a ∷ more) (first ++ (Comma ∷ rest))
listed_more spells a [] first rest h k = absurd k
listed_more spells a (b ∷ more) first rest h k = (first, rest, refl, h, k)

-- ## What is left of a list of registers, by what is before it

-- runs, and the brace that ends them
Runs : ℕ → ℕ × List Piece → List Piece → Type 0
Runs list f ps = (runs : List (Register × Register)) × (a : List Piece) × (ps ≡ a ++ (Sign CloseBrace ∷ f.1)) × Listed SpellsRun runs a × (f.0 ≡ fold bit_or list (map bits_of runs))

-- the brace, or a comma and runs
Ended : ℕ → ℕ × List Piece → List Piece → Type 0
unfolding Runs
Ended list f ps = ((ps ≡ Sign CloseBrace ∷ f.1) × (f.0 ≡ list)) ⊎ ((qs : List Piece) × (ps ≡ Comma ∷ qs) × Runs list f qs)

To : ℕ → Register → ℕ × List Piece → List Piece → Type 0
unfolding Ended Runs
To list a f ps = (t : List ℕ) × (b : Register) × (qs : List Piece) × (ps ≡ Run t ∷ qs) × IsRegister t b × (register_number a ≤ register_number b) × Ended (bit_or list (bits_of (a, b))) f qs

Left : ListPlace → ℕ → ℕ × List Piece → List Piece → Type 0
unfolding Ended Runs To
Left place.Start list f ps = Runs list f ps
Left (place.First a) list f ps = ((qs : List Piece) × (ps ≡ Sign Minus ∷ qs) × To list a f qs) ⊎ Ended (bit_or list (bits_of (a, a))) f ps
Left (place.To a) list f ps = To list a f ps
Left place.After list f ps = Ended list f ps

run_added : (list : ℕ) (run : Register × Register) (f : ℕ × List Piece) (a qs : List Piece) → SpellsRun run a → Ended (bit_or list (bits_of run)) f qs → Runs list f (a ++ qs)
unfolding Ended Runs
run_added list run f a qs h ended =
    elim ended [
      | inl k ↦ (run ∷ [], a, ap (λ (rs : List Piece). a ++ rs) k.0, h, k.1)
      | inr k ↦
          let more = k.2 in (
            run ∷ more.0,
            a ++ (Comma ∷ more.1),
            ap (λ (rs : List Piece). a ++ rs) (k.1 ∙ ap (λ (rs : List Piece). Comma ∷ rs) more.2) ∙ sym (append_assoc a (Comma ∷ more.1) (Sign CloseBrace ∷ f.1)),
            listed_more SpellsRun run more.0 a more.1 h more.3,
            more.4,
          )
    ]

bits_is : (a b : Register) (bits : ℕ) → run_bits a b ≡ Some bits → (register_number a ≤ register_number b) × (bits ≡ bits_of (a, b))
bits_is a b bits e =
    elim (chosen (nat_le (register_number a) (register_number b)) (Some (bits_of (a, b))) None (Some bits) e) [
      | inl h ↦ (grind (arith, nat_tests, h.0), sym (same_Some (bits_of (a, b)) bits h.1))
      | inr h ↦ absurd (none-some bits h.1)
    ]

bits_again : (a b : Register) → register_number a ≤ register_number b → run_bits a b ≡ Some (bits_of (a, b))
bits_again a b le = let k : nat_le (register_number a) (register_number b) ≡ true = grind (arith, nat_tests, le) in rw k refl

by_is : (on : ℕ → ListPlace → Option (ℕ × List Piece)) (ps : List Piece) (o : Option Step) (f : ℕ × List Piece) → list_by on ps o ≡ Some f → (s : Step) × (o ≡ Some s) × (list_by on ps (Some s) ≡ Some f)
by_is on ps None f e = absurd (none-some f e)
by_is on ps (Some s) f e = (s, refl, e)

ended_is : (list : ℕ) (p : Piece) (ps : List Piece) (f : ℕ × List Piece)
    → ((m : ℕ) → list_from m place.Start ps ≡ Some f → Runs m f ps)
    → list_by (λ more next. list_from more next ps) ps (after_step list p) ≡ Some f → Ended list f (p ∷ ps)
unfolding Ended Runs
ended_is list Comma ps f start e = inr (ps, refl, start list e)
ended_is list (Sign CloseBrace) ps f start e = let same = same_Some (list, ps) f e in inl (ap (λ (g : ℕ × List Piece). Sign CloseBrace ∷ g.1) same, sym (ap (λ (g : ℕ × List Piece). g.0) same))
ended_is list _ ps f start e = absurd (none-some f e)

-- after a register that is alone
alone_is : (list : ℕ) (a : Register) (p : Piece) (ps : List Piece) (f : ℕ × List Piece)
    → ((m : ℕ) → list_from m place.Start ps ≡ Some f → Runs m f ps)
    → list_by (λ more next. list_from more next ps) ps (option_and_then (λ more. after_step more p) (with_bits list (run_bits a a))) ≡ Some f → Ended (bit_or list (bits_of (a, a))) f (p ∷ ps)
alone_is list a p ps f start e =
    let s = by_is (λ more next. list_from more next ps) ps (option_and_then (λ more. after_step more p) (with_bits list (run_bits a a))) f e in
    let m = and_then_is (λ more. after_step more p) (with_bits list (run_bits a a)) s.0 s.1 in
    let b = map_is (bit_or list) (run_bits a a) m.0 m.1 in
    let k = bits_is a a b.0 b.1 in
    let on = λ (more : ℕ) (next : ListPlace). list_from more next ps in
    let there : list_by on ps (after_step m.0 p) ≡ Some f = ap (list_by on ps) m.2 ∙ s.2 in
    subst (λ n. Ended n f (p ∷ ps)) (sym b.2 ∙ ap (bit_or list) k.1) (ended_is m.0 p ps f start there)

left_is : (ps : List Piece) (at : ListPlace) (list : ℕ) (f : ℕ × List Piece) → list_from list at ps ≡ Some f → Left at list f ps
unfolding Left To Ended Runs
left_is [] at list f e = absurd (none-some f e)
left_is (Run t ∷ ps) place.Start list f e =
    let s = by_is (λ more next. list_from more next ps) ps (option_map (λ r. step.Goes list (place.First r)) (register_of t)) f e in
    let r = map_is (λ r. step.Goes list (place.First r)) (register_of t) s.0 s.1 in
    let there : list_from list (place.First r.0) ps ≡ Some f = ap (λ q. list_by (λ more next. list_from more next ps) ps (Some q)) r.2 ∙ s.2 in
    elim (left_is ps (place.First r.0) list f there) [
      | inl k ↦
          let to = k.2 in
          subst (Runs list f) (sym (ap (λ (qs : List Piece). Run t ∷ qs) (k.1 ∙ ap (λ (qs : List Piece). Sign Minus ∷ qs) to.3)))
          (run_added list (r.0, to.1) f (Run t ∷ Sign Minus ∷ Run to.0 ∷ []) to.2 (inr (t, to.0, refl, register_is t r.0 r.1, to.4, to.5)) to.6)
      | inr k ↦ run_added list (r.0, r.0) f (Run t ∷ []) ps (inl (t, refl, register_is t r.0 r.1, refl)) k
    ]
left_is (p ∷ ps) place.Start list f e = absurd (none-some f e)
left_is (Sign Minus ∷ ps) (place.First a) list f e = inl (ps, refl, left_is ps (place.To a) list f e)
left_is (p ∷ ps) (place.First a) list f e = inr (alone_is list a p ps f (λ m. left_is ps place.Start m f) e)
left_is (Run t ∷ ps) (place.To a) list f e =
    let s = by_is (λ more next. list_from more next ps) ps (option_and_then (λ last. option_map (λ more. step.Goes more place.After) (with_bits list (run_bits a last))) (register_of t)) f e in
    let r = and_then_is (λ last. option_map (λ more. step.Goes more place.After) (with_bits list (run_bits a last))) (register_of t) s.0 s.1 in
    let m = map_is (λ more. step.Goes more place.After) (with_bits list (run_bits a r.0)) s.0 r.2 in
    let b = map_is (bit_or list) (run_bits a r.0) m.0 m.1 in
    let k = bits_is a r.0 b.0 b.1 in
    let there : list_from m.0 place.After ps ≡ Some f = ap (λ q. list_by (λ more next. list_from more next ps) ps (Some q)) m.2 ∙ s.2 in
    (t, r.0, ps, refl, register_is t r.0 r.1, k.0, subst (λ n. Ended n f ps) (sym b.2 ∙ ap (bit_or list) k.1) (left_is ps place.After m.0 f there))
left_is (p ∷ ps) (place.To a) list f e = absurd (none-some f e)
left_is (p ∷ ps) place.After list f e = ended_is list p ps f (λ m. left_is ps place.Start m f) e

-- ## And back

-- what follows a run: a comma (false), or the brace
ends : Bool → Piece
ends false = Comma
ends true = Sign CloseBrace

run_again : (list : ℕ) (run : Register × Register) (last : Bool) (a rest : List Piece) → SpellsRun run a → list_from list place.Start (a ++ (ends last ∷ rest)) ≡ list_from (bit_or list (bits_of run)) place.After (ends last ∷ rest)
unfolding ends
run_again list run last a rest h =
    elim h [
      | inl k ↦ rw k.1 (single k.0 last k.2 k.3)
      | inr k ↦ rw (k.2, register_again k.0 run.0 k.3, register_again k.1 run.1 k.4, bits_again run.0 run.1 k.5) refl
    ]
  where
    single : (t : List ℕ) (l : Bool) → IsRegister t run.0 → run.1 ≡ run.0 → list_from list place.Start (Run t ∷ ends l ∷ rest) ≡ list_from (bit_or list (bits_of run)) place.After (ends l ∷ rest)
    single t true r same = rw (register_again t run.0 r, bits_again run.0 run.0 (omega arith), same) refl
    single t false r same = rw (register_again t run.0 r, bits_again run.0 run.0 (omega arith), same) refl

list_again : (runs : List (Register × Register)) (a rest : List Piece) (list : ℕ) → Listed SpellsRun runs a → list_from list place.Start (a ++ (Sign CloseBrace ∷ rest)) ≡ Some (fold bit_or list (map bits_of runs), rest)
unfolding ends
list_again [] a rest list h = absurd h
list_again (run ∷ []) a rest list h = run_again list run true a rest h
list_again (run ∷ next ∷ runs) a rest list h =
    let back : a ++ (Sign CloseBrace ∷ rest) ≡ h.0 ++ (Comma ∷ (h.1 ++ (Sign CloseBrace ∷ rest))) = rw h.2 (append_assoc h.0 (Comma ∷ h.1) (Sign CloseBrace ∷ rest)) in
    ap (list_from list place.Start) back ∙ run_again list run false h.0 (h.1 ++ (Sign CloseBrace ∷ rest)) h.3
    ∙ list_again (next ∷ runs) h.1 rest (bit_or list (bits_of run)) h.4

-- ## Blocks

caret_is : (ps : List Piece) (w : Bool) → caret_of ps ≡ Some w → ps ≡ mark_if w Caret
caret_is [] w e = ap (λ b. mark_if b Caret) (same_Some false w e)
caret_is (Sign Caret ∷ []) w e = ap (λ b. mark_if b Caret) (same_Some true w e)
caret_is (Sign Caret ∷ p ∷ ps) w e = absurd (none-some w e)
caret_is _ w e = absurd (none-some w e)

caret_again : (w : Bool) → caret_of (mark_if w Caret) ≡ Some w
caret_again true = refl
caret_again false = refl

braced_is : (load : Bool) (s : Suffix) (t : List ℕ) (n : Register) (w : Bool) (ps : List Piece) (x : BlockTransfer) → IsRegister t n → braced load s n w ps ≡ Some x → SpellsBlock load s x (Run t ∷ (mark_if w Bang ++ ps))
unfolding Left Runs
braced_is load s t n w (Comma ∷ Sign OpenBrace ∷ ps) x r e =
    let f = and_then_is (λ f. option_map (block load s n w f.0) (caret_of f.1)) (list_from 0 place.Start ps) x e in
    let c = map_is (block load s n w f.0.0) (caret_of f.0.1) x f.2 in
    let k = left_is ps place.Start 0 f.0 f.1 in
    let tail : ps ≡ k.1 ++ (Sign CloseBrace ∷ mark_if c.0 Caret) = k.2 ∙ ap (λ (qs : List Piece). k.1 ++ (Sign CloseBrace ∷ qs)) (caret_is f.0.1 c.0 c.1) in
    subst (λ y. SpellsBlock load s y (Run t ∷ (mark_if w Bang ++ (Comma ∷ Sign OpenBrace ∷ ps)))) c.2
    (record {
      loads = refl;
      before = refl;
      up = refl;
      n = t;
      runs = k.0;
      listed = k.1;
      spelled = ap (λ (qs : List Piece). Run t ∷ (mark_if w Bang ++ (Comma ∷ Sign OpenBrace ∷ qs))) tail;
      n-is = r;
      runs-are = k.3;
      list = k.4;
    })
braced_is load s t n w _ x r e = absurd (none-some x e)

block_based_is : (load : Bool) (s : Suffix) (t : List ℕ) (n : Register) (ps : List Piece) (x : BlockTransfer) → IsRegister t n → block_based load s n ps ≡ Some x → SpellsBlock load s x (Run t ∷ ps)
block_based_is load s t n (Sign Bang ∷ ps) x r e = braced_is load s t n true ps x r e
block_based_is load s t n ps x r e = braced_is load s t n false ps x r e

pub block_is : (load : Bool) (s : Suffix) (ps : List Piece) (x : BlockTransfer) → block_of load s ps ≡ Some x → SpellsBlock load s x ps
block_is load s ps x e =
    let f = and_then_is (λ f. block_based load s f.0 f.1) (first_register ps) x e in
    let t = register_front ps f.0 f.1 in
    subst (SpellsBlock load s x) (sym t.1) (block_based_is load s t.0 f.0.0 f.0.1 x t.2 f.2)

marked_again : (load : Bool) (s : Suffix) (n : Register) (w : Bool) (ps : List Piece) → block_based load s n (mark_if w Bang ++ (Comma ∷ Sign OpenBrace ∷ ps)) ≡ braced load s n w (Comma ∷ Sign OpenBrace ∷ ps)
marked_again load s n true ps = refl
marked_again load s n false ps = refl

pub block_again : (load : Bool) (s : Suffix) (x : BlockTransfer) (ps : List Piece) → SpellsBlock load s x ps → block_of load s ps ≡ Some x
block_again load s x ps h =
    let tail : List Piece = h.listed ++ (Sign CloseBrace ∷ mark_if x.user Caret) in
    let front : List Piece = mark_if x.write_back Bang ++ (Comma ∷ Sign OpenBrace ∷ tail) in
    let base : block_of load s ps ≡ block_based load s x.rn front = ap (block_of load s) h.spelled ∙ rw (front_register h.n x.rn front h.n-is) refl in
    let inside : braced load s x.rn x.write_back (Comma ∷ Sign OpenBrace ∷ tail) ≡ Some (block load s x.rn x.write_back (all_bits h.runs) x.user) =
    rw (list_again h.runs h.listed (mark_if x.user Caret) 0 h.runs-are, caret_again x.user) refl in
    base ∙ marked_again load s x.rn x.write_back tail ∙ inside
    ∙ ap (λ (n : ℕ). Some (block load s x.rn x.write_back n x.user)) (sym h.list)
    ∙ rw (← h.before, ← h.up, ← h.loads) refl

-- ## Targets

letter_is : (c : ℕ) → (is_ascii_alphabetic c || c == 95) ≡ true → is_digit c 10 ≡ false
letter_is c h = grind (arith, nat_tests)

label_no_number : (d : List ℕ) → is_label d ≡ true → read_number d ≡ None
label_no_number [] h = absurd cc
label_no_number (c ∷ cs) h =
    let letter = (and_parts (is_ascii_alphabetic c || c == 95) _ h).0 in
    let other = letter_is c letter in
    elim (cases_Bool (c == 48)) [
      | inl e ↦ let k : is_digit 48 10 ≡ false = subst (λ (b : ℕ). is_digit b 10 ≡ false) (eqb-true c 48 e) other in absurd cc
      | inr e ↦ let some : nat_lt 0 (length (c ∷ cs)) ≡ true = grind (arith, nat_tests) in rw (e, some, other) refl
    ]

target_by_is : (o : Option ℕ) (d : List ℕ) (t : Target) → read_number d ≡ o → target_by o d ≡ Some t → SpellsTarget t (Run d ∷ [])
target_by_is (Some n) d t is e = subst (λ x. SpellsTarget x (Run d ∷ [])) (same_Some (Number n) t e) (inl (d, refl, number_is d n is))
target_by_is None d t is e =
    elim (chosen (is_label d) (Some (Label d)) None (Some t) e) [
      | inl h ↦ subst (λ x. SpellsTarget x (Run d ∷ [])) (same_Some (Label d) t h.1) (refl, h.0)
      | inr h ↦ absurd (none-some t h.1)
    ]

run_target_is : (d : List ℕ) (t : Target) → run_target d ≡ Some t → SpellsTarget t (Run d ∷ [])
run_target_is d t e = target_by_is (read_number d) d t refl e

pub target_is : (ps : List Piece) (t : Target) → only_target ps ≡ Some t → SpellsTarget t ps
target_is (Run d ∷ ps) t e =
    let k = with_rest_is ps (run_target d) (t, []) (whole_is (with_rest ps (run_target d)) t e) in
    subst (λ (qs : List Piece). SpellsTarget t (Run d ∷ qs)) (sym k.1) (run_target_is d t k.0)
target_is (Sign Ampersand ∷ ps) t e =
    let m = map_is (λ f. (Number f.0, f.1)) (first_hex ps) (t, []) (whole_is (option_map (λ f. (Number f.0, f.1)) (first_hex ps)) t e) in
    let n = number_front (Sign Ampersand ∷ ps) m.0 m.1 in
    let rest : m.0.1 ≡ [] = ap (λ (x : Target × List Piece). x.1) m.2 in
    let all : n.0 ≡ Sign Ampersand ∷ ps = sym (append-nil n.0) ∙ ap (λ (qs : List Piece). n.0 ++ qs) (sym rest) ∙ sym n.1 in
    subst (λ x. SpellsTarget x (Sign Ampersand ∷ ps)) (ap (λ (x : Target × List Piece). x.0) m.2) (subst (SpellsNumber m.0.0) all n.2)
target_is _ t e = absurd (none-some t e)

number_target : (ps : List Piece) (n : ℕ) → SpellsNumber n ps → only_target ps ≡ Some (Number n)
number_target ps n h =
    elim h [
      | inl k ↦ rw (k.1, number_again k.0 n k.2) refl
      | inr k ↦ rw (k.1, digits_again 16 k.0 n k.2) refl
    ]

pub target_again : (t : Target) (ps : List Piece) → SpellsTarget t ps → only_target ps ≡ Some t
target_again (Number n) ps h = number_target ps n h
target_again (Label d) ps h = rw (h.0, label_no_number d h.1, h.1) refl

-- ## Values

-- what is left of a list of values, by what is before it

Rest : List Target → List Piece → Type 0
Rest vs ps = ((ps ≡ []) × (vs ≡ [])) ⊎ ((qs : List Piece) × (ps ≡ Comma ∷ qs) × Listed SpellsTarget vs qs)

Values : Expects → List Target → List Piece → Type 0
unfolding Rest
Values expects.Start vs ps = Listed SpellsTarget vs ps
Values expects.Hex vs ps = (d : List ℕ) × (n : ℕ) × (more : List Target) × (qs : List Piece) × (ps ≡ Run d ∷ qs) × IsDigits 16 d n × (vs ≡ Number n ∷ more) × Rest more qs
Values expects.After vs ps = Rest vs ps

value_added : (t : Target) (vs : List Target) (a qs : List Piece) → SpellsTarget t a → Rest vs qs → Listed SpellsTarget (t ∷ vs) (a ++ qs)
unfolding Rest
value_added t vs a qs h rest =
    elim rest [
      | inl k ↦ subst (λ (ws : List Target). Listed SpellsTarget (t ∷ ws) (a ++ qs)) (sym k.1) (subst (SpellsTarget t) (sym (append-nil a) ∙ ap (λ (rs : List Piece). a ++ rs) (sym k.0)) h)
      | inr k ↦ subst (λ (rs : List Piece). Listed SpellsTarget (t ∷ vs) (a ++ rs)) (sym k.1) (listed_more SpellsTarget t vs a k.0 h k.2)
    ]

values_is : (ps : List Piece) (at : Expects) (vs : List Target) → values_in at ps ≡ Some vs → Values at vs ps
unfolding Values Rest
values_is [] expects.After vs e = inl (refl, sym (same_Some [] vs e))
values_is [] at vs e = absurd (none-some vs e)
values_is (Run d ∷ ps) expects.Start vs e =
    let k = and_then_is (λ f. option_map (cons_option f.0) (values_in f.1 ps)) (option_map (λ v. (Some v, expects.After)) (run_target d)) vs e in
    let v = map_is (λ v. (Some v, expects.After)) (run_target d) k.0 k.1 in
    let there : option_map (cons_option (Some v.0)) (values_in expects.After ps) ≡ Some vs = ap (λ (f : Option Target × Expects). option_map (cons_option f.0) (values_in f.1 ps)) v.2 ∙ k.2 in
    let m = map_is (cons_option (Some v.0)) (values_in expects.After ps) vs there in
    subst (λ (ws : List Target). Listed SpellsTarget ws (Run d ∷ ps)) m.2 (value_added v.0 m.0 (Run d ∷ []) ps (run_target_is d v.0 v.1) (values_is ps expects.After m.0 m.1))
values_is (Sign Ampersand ∷ ps) expects.Start vs e =
    let m = map_is (cons_option None) (values_in expects.Hex ps) vs e in
    let h = values_is ps expects.Hex m.0 m.1 in
    let front = value_added (Number h.1) h.2 (Sign Ampersand ∷ Run h.0 ∷ []) h.3 (inr (h.0, refl, h.5)) h.7 in
    subst (λ (rs : List Piece). Listed SpellsTarget vs (Sign Ampersand ∷ rs)) (sym h.4) (subst (λ (ws : List Target). Listed SpellsTarget ws (Sign Ampersand ∷ Run h.0 ∷ h.3)) (sym h.6 ∙ m.2) front)
values_is (p ∷ ps) expects.Start vs e = absurd (none-some vs e)
values_is (Run d ∷ ps) expects.Hex vs e =
    let k = and_then_is (λ f. option_map (cons_option f.0) (values_in f.1 ps)) (option_map (λ n. (Some (Number n), expects.After)) (number_by 16 d)) vs e in
    let n = map_is (λ n. (Some (Number n), expects.After)) (number_by 16 d) k.0 k.1 in
    let there : option_map (cons_option (Some (Number n.0))) (values_in expects.After ps) ≡ Some vs = ap (λ (f : Option Target × Expects). option_map (cons_option f.0) (values_in f.1 ps)) n.2 ∙ k.2 in
    let m = map_is (cons_option (Some (Number n.0))) (values_in expects.After ps) vs there in
    (d, n.0, m.0, ps, refl, digits_is 16 d n.0 n.1, sym m.2, values_is ps expects.After m.0 m.1)
values_is (p ∷ ps) expects.Hex vs e = absurd (none-some vs e)
values_is (Comma ∷ ps) expects.After vs e =
    let m = map_is (cons_option None) (values_in expects.Start ps) vs e in
    inr (ps, refl, subst (λ (ws : List Target). Listed SpellsTarget ws ps) m.2 (values_is ps expects.Start m.0 m.1))
values_is (p ∷ ps) expects.After vs e = absurd (none-some vs e)

pub dcd_is : (ps : List Piece) (vs : List Target) → values_in expects.Start ps ≡ Some vs → Listed SpellsTarget vs ps
unfolding Values
dcd_is ps vs e = values_is ps expects.Start vs e

-- a value in front of what reads on
value_front : (t : Target) (a qs : List Piece) → SpellsTarget t a → values_in expects.Start (a ++ qs) ≡ option_map (λ (vs : List Target). t ∷ vs) (values_in expects.After qs)
value_front (Number n) a qs h =
    elim h [
      | inl k ↦ rw (k.1, number_again k.0 n k.2) refl
      | inr k ↦ rw (k.1, digits_again 16 k.0 n k.2) (hex_more n (values_in expects.After qs))
    ]
  where
    hex_more : (n : ℕ) (o : Option (List Target)) → option_map (cons_option None) (option_map (cons_option (Some (Number n))) o) ≡ option_map (λ (vs : List Target). Number n ∷ vs) o
    hex_more n None = refl
    hex_more n (Some vs) = refl
value_front (Label d) a qs h = rw (h.0, label_no_number d h.1, h.1) refl

pub dcd_again : (vs : List Target) (ps : List Piece) → Listed SpellsTarget vs ps → values_in expects.Start ps ≡ Some vs
dcd_again [] ps h = absurd h
dcd_again (t ∷ []) ps h = ap (values_in expects.Start) (sym (append-nil ps)) ∙ value_front t ps [] h
dcd_again (t ∷ u ∷ vs) ps h =
    ap (values_in expects.Start) h.2 ∙ value_front t h.0 (Comma ∷ h.1) h.3 ∙ rw (dcd_again (u ∷ vs) h.1 h.4) refl
