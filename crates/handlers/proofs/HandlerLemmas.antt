-- What is known of a source and a statement up to their tree of loops, and what their refusals say.
use Rattle.std.proofs.Common.{◌≡◌, ◌∙◌, ◌⊎◌, ℕ, List, Result, Ok, Err, refl, sym, ap, subst, inl, inr}
use Rattle.std.specs.Prelude.{IfErr}
use Rattle.std.specs.Result.{IsErrAnd}
use Rattle.bus_ticks.specs.declared.profile.Profile.{Profile}
use Rattle.image.specs.Image.{Words}
use Rattle.control_flow.specs.Flow.{Flow}
use Rattle.control_flow.specs.Graph.{IsBuildFault, IsFlowGraph}
use Rattle.statement.specs.Stated.{Stated, StatedLoops}
use Rattle.image.specs.Labels.{Names}
use Rattle.statement.specs.Statement.{IsStatement}
use Rattle.statement.specs.declared.faults.StatementFault.{StatementFault}
use Rattle.control_flow.proofs.Unique.{one_flow}
use Rattle.statement.proofs.Unique.{one_statement}
use Rattle.loop_bounds.specs.Nest.{Applies, IsNestFault}
use Rattle.loop_bounds.specs.declared.fault.NestFault.{NestFault}
use Rattle.loop_bounds.specs.declared.fault.NestFault.TheVariants as nest_fault
use Rattle.handlers.specs.Report.{AreLoopsRefused, HasGraph, HasLoops, IsHandlerRefused}
use Rattle.handlers.specs.Source.{IsSourceFault}
use Rattle.sources.specs.Source.{Said, source_of}
use Rattle.sources.specs.declared.fault.SourceFault.TheVariants as source_fault
use Rattle.handlers.specs.declared.fault.ReportFault.{ReportFault}
use Rattle.handlers.specs.declared.fault.ReportFault.TheVariants.{Memory, Source, Image, Statement, Graph}
use Rattle.handlers.specs.declared.fault.ReportFault.TheVariants.{Dialect, Loops}
use Rattle.sources.specs.File.{File}

-- ## A source has one image, a statement one value, and both one graph

pub one_ok : {T E : Type 0} (x y : T) (r : Result T E) → r ≡ Ok x → r ≡ Ok y → x ≡ y
one_ok x y r p q = let same : Ok x ≡ Ok y = sym p ∙ q in cc same

pub never_both : {T E : Type 0} (x : T) (e : E) (r : Result T E) → r ≡ Ok x → r ≡ Err e → ⊥
never_both x e r p q = let same : Ok x ≡ Err e = sym p ∙ q in cc same

pub same_statement : (statement : List ℕ) (names others : Names) (answer other : Result Stated StatementFault)
    → names ≡ others → IsStatement statement names answer → IsStatement statement others other
    → answer ≡ other
same_statement statement names others answer other same h k =
    one_statement statement others answer other (subst (λ (n : Names). IsStatement statement n answer) same h)
    k

-- two graphs of the same texts
pub record AreSame (st su : Stated) (flow other : Flow) : Type 0 where
  pub same_stated : st ≡ su
  pub same_flow : flow ≡ other

pub one_graph : (source : File) (statement : List ℕ) (profile : Profile) (st su : Stated) (flow other : Flow)
    → HasGraph source statement profile st flow → HasGraph source statement profile su other
    → AreSame st su flow other
one_graph source statement profile st su flow other g h =
    let said : (h.words, h.names) ≡ (g.words, g.names) =
    one_ok (h.words, h.names) (g.words, g.names) (source_of source) h.source_is g.source_is in
    let words : h.words ≡ g.words = ap (λ (s : Said). s.0) said in
    let ok : Ok su ≡ Ok st =
    same_statement statement h.names g.names (Ok su) (Ok st) (ap (λ (s : Said). s.1) said) h.statement_is
    g.statement_is in
    let stated : su ≡ st = cc ok in
    let graph : IsFlowGraph g.words st profile other =
    subst (λ (s : Stated). IsFlowGraph g.words s profile other) stated
    (subst (λ (w : Words). IsFlowGraph w su profile other) words h.graph_is) in
    record { same_stated = sym stated; same_flow = one_flow g.words st profile flow other g.graph_is graph }

-- the words of a source are those of its graph
pub same_words : (source : File) (statement : List ℕ) (profile : Profile) (words : Words) (names : Names) (st : Stated) (flow : Flow) → source_of source ≡ Ok (words, names)
    → (loops : HasLoops source statement profile st flow) → words ≡ loops.graph.words
same_words source statement profile words names st flow said loops =
    ap (λ (p : Said). p.0) (one_ok (words, names) (loops.graph.words, loops.graph.names) (source_of source) said loops.graph.source_is)

-- a refusal of the loops says what applies
applies : (flow : Flow) (loops : StatedLoops) (f : NestFault) → IsNestFault flow loops f
    → Applies flow loops f
applies flow loops nest_fault.Memory h = h
applies flow loops nest_fault.LoopsCross h = h
applies flow loops nest_fault.SharedHeader h = h.1
applies flow loops nest_fault.EntersMidLoop h = h.2
applies flow loops nest_fault.UnboundedCycle h = h.3
applies flow loops nest_fault.NestedTooDeep h = h.4

-- ## Refusals of a source and a statement that have a graph and loops

-- a pair that has a graph is refused up to the loops for lack of memory, or for its loops
pub graph_refusals : (source : File) (statement : List ℕ) (profile : Profile) (st : Stated) (flow : Flow)
    (e : ReportFault) → HasGraph source statement profile st flow
    → IsHandlerRefused source statement profile e
    → (e ≡ Memory) ⊎ ((f : NestFault) × (e ≡ Loops f))
graph_refusals source statement profile st flow Memory g r = inl refl
graph_refusals source statement profile st flow (Loops f) g r = inr (f, refl)
graph_refusals source statement profile st flow (Source f) g r =
    absurd (never_both (g.words, g.names) (source_fault.Text f) (source_of source) g.source_is r)
graph_refusals source statement profile st flow (Image f) g r =
    absurd (never_both (g.words, g.names) (source_fault.Image f) (source_of source) g.source_is r)
graph_refusals source statement profile st flow (Dialect f) g r =
    absurd (never_both (g.words, g.names) (source_fault.Dialect f) (source_of source) g.source_is r)
graph_refusals source statement profile st flow (Statement f) g r =
    let said : (g.words, g.names) ≡ (r.words, r.names) =
    one_ok (g.words, g.names) (r.words, r.names) (source_of source) g.source_is r.source_is in
    let both : Ok st ≡ Err f =
    same_statement statement g.names r.names (Ok st) (Err f) (ap (λ (s : Said). s.1) said) g.statement_is
    r.statement_is in
    absurd (cc both)
graph_refusals source statement profile st flow (Graph f) g r =
    let said : (r.words, r.names) ≡ (g.words, g.names) =
    one_ok (r.words, r.names) (g.words, g.names) (source_of source) r.source_is g.source_is in
    let words : r.words ≡ g.words = ap (λ (s : Said). s.0) said in
    let ok : Ok r.stated ≡ Ok st = same_statement statement r.names g.names (Ok r.stated) (Ok st)
    (ap (λ (s : Said). s.1) said) r.statement_is g.statement_is in
    let stated : r.stated ≡ st = cc ok in
    absurd (g.no_fault f r.not_memory (subst (λ (s : Stated). IsBuildFault g.words s profile f) stated
    (subst (λ (w : Words). IsBuildFault w r.stated profile f) words r.holds)))
graph_refusals source statement profile st flow e g r = absurd r

-- such a pair is refused up to the loops for lack of memory alone
pub handler_refusals : (source : File) (statement : List ℕ) (profile : Profile) (st : Stated) (flow : Flow)
    (e : ReportFault) → HasLoops source statement profile st flow
    → IsHandlerRefused source statement profile e
    → e ≡ Memory
handler_refusals source statement profile st flow e a r =
    elim (graph_refusals source statement profile st flow e a.graph r) [
      | inl memory ↦ memory
      | inr loops ↦ absurd (loops_hold loops.0 (subst (IsHandlerRefused source statement profile) loops.1 r))
    ]
  where
    loops_hold : (f : NestFault) → AreLoopsRefused source statement profile f → ⊥
    loops_hold f r =
        let same = one_graph source statement profile r.stated st r.flow flow r.graph a.graph in
        a.no_fault f r.not_memory (subst (λ (s : Stated). Applies flow s.loops f) same.same_stated
        (subst (λ (w : Flow). Applies w r.stated.loops f) same.same_flow
        (applies r.flow r.stated.loops f r.holds)))

-- what holds of a fault holds of an answer that is that fault
pub refused_as : {T E : Type 0} (r : Result T E) (e : E) (P : E → Type 0) → IsErrAnd r (λ x. x ≡ e) → P e
    → IfErr r P
refused_as (Ok x) e P h p = tt
refused_as (Err x) e P h p = subst P (sym h) p

-- ## The faults of the source

pub source_refusal : (source : File) (statement : List ℕ) (profile : Profile) (e : ReportFault)
    → IsSourceFault source e → IsHandlerRefused source statement profile e
source_refusal source statement profile Memory h = tt
source_refusal source statement profile (Source f) h = h
source_refusal source statement profile (Image f) h = h
source_refusal source statement profile (Dialect f) h = h
source_refusal source statement profile e h = absurd h
