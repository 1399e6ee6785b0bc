-- A vector is its front and its end.
use Rattle.std.proofs.Common.{◌≡◌, ◌∙◌, ℕ, zero, suc, ◌+◌, Bool, true, false, true≢false, List, [], ◌∷◌, ◌++◌, map, codes, refl, sym, ap, append_assoc, arith, subst}
use Rattle.arm2_effect.specs.declared.step_end.Kind.{Kind}
use Rattle.arm2_effect.specs.declared.step_end.Kind.TheVariants.{Plain, Taken, Stopped}
use Rattle.arm2_effect.specs.Effects.{Access}
use Rattle.arm2_exec.specs.State.{State}
use Rattle.arm2_exec.specs.Step.{address_in}
use Rattle.memc.specs.Memory.{Memory}
use Rattle.json_trace.specs.Json.{array, ended, member, object, quoted}
use Rattle.test_vectors.specs.Shape.{is_store, settled, shape}
use Rattle.test_vectors.specs.Vector.{AreVectors, IsVector, access_value, addresses_of, opening, register_members, state_value, vector_members}
use Rattle.test_vectors.specs.Writing.{front_text, ram_text, shown_at}
use Rattle.test_vectors.specs.declared.bus_use.BusUse.{BusUse}
use Rattle.test_vectors.specs.declared.bus_use.BusUse.TheVariants.{Nothing, Fetches, Loads, Stores}
use Rattle.test_vectors.specs.declared.shown_words.ShownWord.{ShownWord}
use Rattle.test_vectors.proofs.TextLaws.{object_is, state_is}

-- of a step that stores the words before it are those of what was planned
pub stored_words : (m : Memory) (k : Kind) (planned : BusUse) (at to : ℕ) → is_store (settled k planned) ≡ true
    → map (shown_at m) (at ∷ addresses_of (shape planned at at)) ≡ map (shown_at m) (at ∷ addresses_of (shape (settled k planned) at to))
stored_words m Plain Nothing at to stores = absurd (true≢false (sym stores))
stored_words m Plain (Fetches delay jumps) at to stores = absurd (true≢false (sym stores))
stored_words m Plain (Loads words jumps) at to stores = absurd (true≢false (sym stores))
stored_words m Plain (Stores words) at to stores = refl
stored_words m (Taken vector) planned at to stores = absurd (true≢false (sym stores))
stored_words m (Stopped why) planned at to stores = absurd (true≢false (sym stores))

grouped : (p name t e r rest : List ℕ) → (p ++ (name ++ (t ++ e))) ++ (r ++ rest) ≡ p ++ (name ++ (t ++ ((e ++ r) ++ rest)))
grouped p name t e r rest = simp append_assoc

joined : (name e r s1 s2 cycles : List ℕ) → e ++ r ≡ s1
    → (codes "{\"name\":\"" ++ (name ++ (codes "\",\"initial\":" ++ e)))
    ++ (r ++ (codes ",\"final\":" ++ (s2 ++ (codes ",\"cycles\":" ++ (cycles ++ codes "}")))))
    ≡ object
    (member (codes "name") (quoted name) ∷ member (codes "initial") s1 ∷ member (codes "final") s2
    ∷ member (codes "cycles") cycles ∷ [])
joined name e r s1 s2 cycles is =
    grouped (codes "{\"name\":\"") name (codes "\",\"initial\":") e r (codes ",\"final\":" ++ (s2 ++ (codes ",\"cycles\":" ++ (cycles ++ codes "}"))))
    ∙ ap (λ (s : List ℕ). codes "{\"name\":\"" ++ (name ++ (codes "\",\"initial\":" ++ (s ++ (codes ",\"final\":" ++ (s2 ++ (codes ",\"cycles\":" ++ (cycles ++ codes "}")))))))) is
    ∙ sym (object_is name s1 s2 cycles (codes "name") (codes "initial") (codes "final") (codes "cycles"))

-- the end of a vector of some accesses
abbrev pub end_with : Memory → (after : State) → (at : ℕ) → List Access → List ℕ
end_with m after at accesses =
    ram_text (map (shown_at m) (at ∷ addresses_of accesses))
    ++ (codes ",\"final\":"
    ++ (state_value after.regs after.bus.memc (at ∷ addresses_of accesses)
    ++ (codes ",\"cycles\":" ++ (array (map (access_value m after.bus.memc) accesses) ++ codes "}"))))

pub vector_is : (name : List ℕ) (s after : State) (at : ℕ) (done accesses : List Access) → at ≡ address_in s.regs → done ≡ accesses
    → front_text name s.regs ++ end_with s.bus.memc after at done ≡ object (vector_members name s after accesses)
vector_is name s after at done accesses at_is done_is =
    ap (λ (a : ℕ). front_text name s.regs ++ end_with s.bus.memc after a done) at_is
    ∙ ap (λ (xs : List Access). front_text name s.regs ++ end_with s.bus.memc after (address_in s.regs) xs) done_is
    ∙ joined name (codes "{" ++ ended (register_members s.regs)) (ram_text (map (shown_at s.bus.memc) (address_in s.regs ∷ addresses_of accesses)))
    (state_value s.regs s.bus.memc (address_in s.regs ∷ addresses_of accesses))
    (state_value after.regs after.bus.memc (address_in s.regs ∷ addresses_of accesses))
    (array (map (access_value s.bus.memc after.bus.memc) accesses))
    (state_is s.regs s.bus.memc (address_in s.regs ∷ addresses_of accesses))

-- one vector more
pub more_vectors : (number : ℕ) (front vector : List ℕ) → AreVectors number front → IsVector number vector
    → AreVectors (number + 1) (front ++ (opening number ++ vector))
more_vectors number front vector are is =
    let next : suc number ≡ number + 1 = omega arith in
    subst (λ (n : ℕ). AreVectors n (front ++ (opening number ++ vector))) next (front, vector, are, is, refl)
