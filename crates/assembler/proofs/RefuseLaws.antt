-- What is refused is a refusal, and a refusal is refused.
use Rattle.std.specs.Prelude.{flat_map}
use Rattle.std.proofs.Common.{◌≡◌, ◌+◌, ℕ, false, List, [], ◌∷◌, length, Result, Ok, Err, refl, sym, ap, subst, ◌∙◌, inl, inr, arith, append-nil}
use Rattle.std.proofs.lemmas.Bool.{false≢true}
use Rattle.image.specs.Image.{Words}
use Rattle.asm_text.specs.Source.{lines_of}
use Rattle.asm_text.specs.Statements.{Parsed}
use Rattle.assembler.specs.Assembles.{labels_of, laid, places}
use Rattle.assembler.specs.Refusals.{ArePassed, IsRefusal, IsRefusedAtOnce, IsRefusedForLabels}
use Rattle.image.specs.Labels.{Names}
use Rattle.assembler.specs.Sweeps.{State, assembled, assembled_on, assembled_with, at_first, swept}
use Rattle.assembler.specs.declared.fault.LineFault.{LineFault}
use Rattle.assembler.proofs.AssembleAll.{apart_none}
use Rattle.assembler.proofs.AssembleLaws.{first_put}
use Rattle.assembler.proofs.AssembleFits.{Fits, JoinsIf, fits}
use Rattle.assembler.proofs.RefuseFront.{Front, ItemsOf}
use Rattle.assembler.proofs.RefuseLabels.{Known, filled_all, filled_stops, known_or_stop}
use Rattle.assembler.proofs.RefuseSweep.{Stops, Texts, front_first, pass_or_stop, passed_on, stops_swept}

-- ## All lines pass the first sweep

pub record Swept (source : List ℕ) (said : List Parsed) : Type 0 where
  pub state : State
  pub number : ℕ
  pub front : Front state number said
  pub same : swept at_first 1 (lines_of source) ≡ Ok state

pub all_swept : Texts → (source : List ℕ) (said : List Parsed) → ArePassed [] (lines_of source) said
    → Swept source said
unfolding swept
all_swept texts source said a =
    let p = passed_on texts at_first 1 [] (lines_of source) said [] front_first a in
    record {
      state =
          p.state;
      number =
          p.next;
      front =
          p.front;
      same = ap (swept at_first 1) (sym (append-nil (lines_of source))) ∙ p.same;
    }

all_fit : (s : State) (k : ℕ) (said : List Parsed) → Front s k said → Fits [] (flat_map places (laid said))
unfolding JoinsIf
all_fit s k said h =
    fits said 32768 false [] [] 0
    (record {
      put =
          first_put;
      joins =
          λ e. absurd (false≢true e);
      held =
          h.held;
      apart =
          apart_none (flat_map places (laid said));
      once =
          h.once;
      few = omega (arith, h.few);
      few_segments = omega (arith, h.few_segments);
    })

names_known : (s : State) (k : ℕ) (said : List Parsed) → Front s k said
    → Known s.names (labels_of (laid said))
unfolding Known
names_known s k said h = h.named

-- ## A refusal is refused

pub stopped_at_once : Texts → (source : List ℕ) (fault : LineFault) (n : ℕ) → IsRefusedAtOnce source fault n
    → swept at_first 1 (lines_of source) ≡ Err (fault, n)
stopped_at_once texts source fault n r =
    let p = passed_on texts at_first 1 [] r.front r.said (r.line ∷ r.after) front_first r.passed in
    let stop = stops_swept texts p.state p.next r.said r.line r.after fault p.front r.fault-is in
    let number : p.next ≡ n = omega (arith, p.next-is, r.number-is) in
    ap (swept at_first 1) r.parts ∙ p.same ∙ stop ∙ ap (λ m. Err (fault, m)) number

at_once : Texts → (source : List ℕ) (fault : LineFault) (n : ℕ) → IsRefusedAtOnce source fault n
    → assembled source ≡ Err (fault, n)
at_once texts source fault n r = ap assembled_on (stopped_at_once texts source fault n r)

for_labels : Texts → (source : List ℕ) (fault : LineFault) (n : ℕ) → IsRefusedForLabels source fault n
    → assembled source ≡ Err (fault, n)
for_labels texts source fault n r =
    let s = all_swept texts source r.said r.passed in
    let all = all_fit s.state s.number r.said s.front in
    let items = subst (λ ls. ItemsOf 1 ls s.state.items) r.parts s.front.items in
    let stop =
    filled_stops s.state.names
    (labels_of (laid r.said)) 1 r.front r.line r.after s.state.items [] fault
    (names_known s.state s.number r.said s.front)
    items (subst (λ ls. Fits [] (flat_map places ls)) r.parts all) r.none r.fault-is in
    let number : 1 + length r.front ≡ n = omega (arith, r.number-is) in
    ap assembled_on s.same ∙ ap (assembled_with s.state.names) (stop ∙ ap (λ m. Err (fault, m)) number)

pub refused_built : Texts → (source : List ℕ) (fault : LineFault) (n : ℕ) → IsRefusal source fault n
    → assembled source ≡ Err (fault, n)
refused_built texts source fault n h =
    elim h [ inl r ↦ at_once texts source fault n r | inr r ↦ for_labels texts source fault n r ]

-- ## What is refused is a refusal

same_refusal : (source : List ℕ) (f g : LineFault) (m n : ℕ) → assembled source ≡ Err (f, m)
    → assembled source ≡ Err (g, n) → IsRefusal source f m → IsRefusal source g n
same_refusal source f g m n e k h =
    let same = pairs (sym e ∙ k) in
    subst (λ (x : LineFault × ℕ). IsRefusal source x.0 x.1) same h
  where
    pairs : ◌≡◌ {A = Result (Words × Names) (LineFault × ℕ)} (Err (f, m)) (Err (g, n))
        → ◌≡◌ {A = LineFault × ℕ} (f, m) (g, n)
    pairs e = cc

not_refused : {A : Type 0} (source : List ℕ) (f : LineFault) (n : ℕ) (image : Words) (names : Names)
    → assembled source ≡ Err (f, n) → assembled source ≡ Ok (image, names) → A
not_refused source f n image names e k = absurd (other (sym e ∙ k))
  where
    other : ◌≡◌ {A = Result (Words × Names) (LineFault × ℕ)} (Err (f, n)) (Ok (image, names)) → ⊥
    other e = cc

-- where the first sweep stops
pub refused_there : (source : List ℕ) (stop : Stops [] (lines_of source))
    → IsRefusedAtOnce source stop.fault (length stop.front + 1)
refused_there source stop = record {
  front = stop.front;
  line = stop.line;
  after = stop.after;
  parts = stop.parts;
  number-is = refl;
  said = stop.said;
  passed = stop.passed;
  fault-is = stop.fault-is;
}

pub refused_is : Texts → (source : List ℕ) (fault : LineFault) (n : ℕ) → assembled source ≡ Err (fault, n)
    → IsRefusal source fault n
refused_is texts source fault n e =
    elim (pass_or_stop texts at_first 1 [] (lines_of source) front_first) [
      | inr stop ↦
          let m = length stop.front + 1 in
          let r = refused_there source stop in
          same_refusal source stop.fault fault m n (at_once texts source stop.fault m r) e (inl r)
      | inl all ↦
          let said = all.0 in
          let s = all_swept texts source said all.1 in
          let labels = labels_of (laid said) in
          let known = names_known s.state s.number said s.front in
          elim (known_or_stop s.state.names labels 1 (laid said) s.state.items known s.front.items) [
            | inr stop ↦
                let m = length stop.front + 1 in
                let r : IsRefusedForLabels source stop.fault m = record {
                  said = said;
                  passed = all.1;
                  front = stop.front;
                  line = stop.line;
                  after = stop.after;
                  parts = stop.parts;
                  number-is = refl;
                  none = stop.none;
                  fault-is = stop.fault-is;
                } in
                same_refusal source stop.fault fault m n (for_labels texts source stop.fault m r) e (inr r)
            | inl clean ↦
                let fill =
                filled_all s.state.names labels 1 (laid said) s.state.items [] known s.front.items
                (all_fit s.state s.number said s.front) clean in
                not_refused source fault n fill.0 s.state.names e
                (ap assembled_on s.same ∙ ap (assembled_with s.state.names) fill.1)
          ]
    ]
