-- The machine file that is printed for an edge, run by the same source: its one step takes the edge at exactly
-- its price.
use Rattle.std.proofs.Common.{◌≡◌, ◌≢◌, ◌∙◌, ◌⊎◌, ◌+◌, ◌*◌, ◌++◌, ℕ, suc, true, false, List, [], ◌∷◌, codes, Option, Some, None, Result, Ok, Err, refl, sym, ap, subst, inl, inr, arith, append_assoc, eqb}
use Rattle.std.specs.Prelude.{All, IfErr}
use Rattle.std.specs.List.{Contains}
use Rattle.std.specs.Fmt.{digits}
use Rattle.std.specs.Str.{IsUtf8}
use Rattle.std.proofs.lemmas.Bool.{cases_Bool, eqb-true}
use Rattle.std.proofs.lemmas.List.{get_or_default}
use Rattle.toml.specs.Text.{IsDocumentText, expressions}
use Rattle.bus_ticks.specs.declared.profile.Profile.{Profile}
use Rattle.arm2_effect.specs.declared.step_end.Kind.{Kind}
use Rattle.arm2_effect.specs.declared.step_end.Kind.TheVariants.{Plain}
use Rattle.arm2_exec.specs.Run.{Ends, Runs, at_rest, counted, why_stopped}
use Rattle.arm2_exec.specs.State.{State}
use Rattle.arm2_exec.specs.Step.{Step}
use Rattle.arm2_exec.specs.declared.machine.Input.{Input}
use Rattle.arm2_exec.specs.declared.machine.Ran.{Ran}
use Rattle.arm2_exec.specs.declared.machine.Stepped.{Stepped}
use Rattle.arm2_exec.proofs.StepLemmas.{one_step}
use Rattle.image.specs.Image.{Words, word_of, AreOf, IsFitted}
use Rattle.loader.specs.Loading.{put_words}
use Rattle.statement.specs.Stated.{Stated}
use Rattle.image.specs.Labels.{Names}
use Rattle.statement.specs.Statement.{IsStatement}
use Rattle.machine_file.specs.Inputs.{AreInputs, IsLast, bursts_of_step, port_of_step}
use Rattle.machine_file.specs.MachineFile.{IsMachineFile}
use Rattle.machine_file.specs.Stated as file
use Rattle.machine_file.specs.Started.{IsStarted}
use Rattle.machine_file.specs.Written.{document_of}
use Rattle.control_flow.specs.Flow.{Flow}
use Rattle.control_flow.specs.Free.{IsFree}
use Rattle.control_flow.specs.Graph.{IsBuildFault, IsFlowGraph}
use Rattle.control_flow.specs.declared.faults.BuildFault.{BuildFault}
use Rattle.control_flow.specs.declared.faults.BuildFault.TheVariants as build_fault
use Rattle.loop_bounds.specs.declared.fault.NestFault.{NestFault}
use Rattle.flow_graph.specs.Tight.{IsTight}
use Rattle.flow_graph.specs.TightFile.{HasPlaceWord, IsTightFile}
use Rattle.control_flow.specs.declared.edges.Edge.{Edge}
use Rattle.control_flow.specs.declared.edges.Label.{Label}
use Rattle.control_flow.specs.declared.edges.Label.TheVariants.{Do, Skip}
use Rattle.control_flow.specs.declared.places.Place.{Place}
use Rattle.control_flow.specs.declared.places.Place.TheVariants as place
use Rattle.control_flow.specs.Places.{place_address}
use Rattle.certificate.specs.Walk.{step_of, to_of}
use Rattle.certificate.specs.Words.{edge_words, label_words, to_words}
use Rattle.handlers.specs.Placing.{IsLoaded, IsRunnable}
use Rattle.handlers.specs.Report.{BeforeOutput, HasGraph, IsHandlerRefused}
use Rattle.handlers.specs.Source.{IsSourceFault}
use Rattle.sources.specs.Source.{IsSource, Said, source_of}
use Rattle.sources.specs.declared.read.Source.{Source as ReadSource}
use Rattle.image.specs.Labels.{address_of}
use Rattle.handlers.specs.Refusal.{ComesAlone}
use Rattle.bound_reports.specs.TightReport.{HasNoTightReport, HasTightReport, IsEdgeAt, IsEdgeRefused, IsTightRefused, IsTightReport, TakesEdge, edge_line}
use Rattle.bound_reports.specs.TightReport.{one_step as step_of_cost}
use Rattle.bound_reports.specs.TightText.{IsEdgeFile, IsEdgeText}
use Rattle.handlers.specs.declared.fault.ReportFault.{ReportFault}
use Rattle.handlers.specs.declared.fault.ReportFault.TheVariants.{Memory, Source, Image, Dialect, Statement, Graph, Loops, Load, Device}
use Rattle.handlers.specs.declared.fault.ReportFault.TheVariants as report_fault
use Rattle.bound_reports.proofs.CommentLemmas.{IsPlainLine, after_comment, both_plain, digits_plain, printed_start}
use Rattle.handlers.proofs.HandlerLemmas.{graph_refusals, one_graph, one_ok}
use Rattle.handlers.proofs.PlacingLemmas.{lacks_after, one_machine_file}
use Rattle.sources.specs.File.{File}

-- ## The text

label_plain : (l : Label) → IsPlainLine (label_words l)
label_plain Do = refl
label_plain Skip = refl

to_plain : (p : Place) → IsPlainLine (to_words (to_of p))
to_plain (place.At calls a) = digits_plain 16 true a (omega arith) (omega arith)
to_plain place.Exit = refl

blank_plain : (bytes : List ℕ) → IsPlainLine bytes → IsPlainLine (32 ∷ bytes)
blank_plain bytes h = both_plain (32 ∷ []) bytes refl h

words_plain : (e : Edge) → IsPlainLine (codes " edge " ++ edge_words (step_of e))
words_plain e =
    let address = digits 16 true (place_address e.from) in
    let label = label_words e.label in
    let target = to_words (to_of e.to) in
    let cost = digits 10 false e.cost in
    let four = blank_plain cost (digits_plain 10 false e.cost (omega arith) (omega arith)) in
    let three = blank_plain (target ++ 32 ∷ cost) (both_plain target (32 ∷ cost) (to_plain e.to) four) in
    let two = blank_plain (label ++ 32 ∷ (target ++ 32 ∷ cost)) (both_plain label (32 ∷ (target ++ 32 ∷ cost)) (label_plain e.label) three) in
    let one = both_plain address (32 ∷ (label ++ 32 ∷ (target ++ 32 ∷ cost))) (digits_plain 16 true (place_address e.from) (omega arith) (omega arith)) two in
    both_plain (codes " edge ") (edge_words (step_of e)) refl one

-- the edge's line, and a document after it
line_is : (e : Edge) (document : List ℕ)
    → edge_line e ++ document ≡ 35 ∷ ((codes " edge " ++ edge_words (step_of e)) ++ 10 ∷ document)
line_is e document = simp append_assoc refl

-- a machine file's text reads the same after the edge's line
states_after : (e : Edge) (document : List ℕ) (f : file.Stated) → IsUtf8 (edge_line e ++ document)
    → IsDocumentText false (document_of f) document → IsMachineFile document (Ok f)
    → IsMachineFile (edge_line e ++ document) (Ok f)
states_after e document f utf8 printed (inl (ms, is, reads)) =
    inl (
      ms,
      record {
        utf8 = utf8;
        parsed = rw (line_is e document) (after_comment (codes " edge " ++ edge_words (step_of e)) document ms (words_plain e) (printed_start (expressions (document_of f)) document printed) is.parsed);
      },
      reads,
    )
states_after e document f utf8 printed (inr (none, refused)) = absurd (cc refused)

pub edge_file : (e : Edge) (document text : List ℕ) (f : file.Stated) → text ≡ edge_line e ++ document → IsUtf8 text
    → IsDocumentText false (document_of f) document → IsMachineFile document (Ok f) → IsEdgeFile e f text
edge_file e document text f is utf8 printed states = record {
  document = document;
  spelled = is;
  states = subst (λ (t : List ℕ). IsMachineFile t (Ok f)) (sym is) (states_after e document f (subst IsUtf8 is utf8) printed states);
}

-- ## The inputs

-- without events the step gets the port's first word, and no burst comes
no_event : {A : Type 0} (s : file.Schedule) (given : ℕ → Option A) (start value : A) (end : ℕ)
    → ((k : ℕ) → given k ≡ None) → IsLast given start end value → value ≡ start
no_event s given start value end none (inl (k, below, is, after)) = absurd (let both : Some value ≡ None = sym is ∙ none k in cc both)
no_event s given start value end none (inr (unset, is)) = is

port_given : (s : file.Schedule) → s.events ≡ [] → (k : ℕ) → port_of_step s k ≡ None
port_given s none k = rw none refl

no_bursts : (s : file.Schedule) → s.events ≡ [] → bursts_of_step s 0 ≡ 0
no_bursts s none = rw none refl

record HasOneInput (s : file.Schedule) (inputs : List Input) : Type 0 where
  input : Input
  alone : inputs ≡ input ∷ []
  port : input.port ≡ s.port
  bursts : input.bursts ≡ 0

one_input : (s : file.Schedule) (inputs : List Input) → s.steps ≡ 1 → s.events ≡ [] → AreInputs s inputs → HasOneInput s inputs
one_input s [] one none are = absurd (omega (arith, one, are.count))
one_input s (i ∷ j ∷ rest) one none are = absurd (omega (arith, one, are.count))
one_input s (i ∷ []) one none are =
    let is = are.each 0 i (omega arith) refl in
    record {
      input = i;
      alone = refl;
      port = no_event s (port_of_step s) s.port i.port 1 (port_given s none) is.port;
      bursts = is.bursts ∙ no_bursts s none;
    }

-- ## The words

-- the word at an address is among the words
is_among : (words : Words) (a w : ℕ) → word_of words a ≡ Some w → Contains words (a, w)
is_among [] a w h = cc h
is_among (e ∷ rest) a w h = elim (cases_Bool (eqb e.0 a)) [
  | inl same ↦
      let value : Some e.1 ≡ Some w = sym (rw same refl) ∙ h in
      let word : e.1 ≡ w = cc value in
      (0, omega arith, λ i. (eqb-true e.0 a same i, word i))
  | inr other ↦
      let later = is_among rest a w (sym (rw other refl) ∙ h) in
      (suc later.0, omega (arith, later.1), later.2)
]

place_among : (words : Words) (p : Place) → HasPlaceWord words p words
place_among words p calls a w is there = is_among words a w there

-- ## The run

-- a step that is not stopped, alone
ran_alone : (s after : State) (i : Input) (ran : Ran) (stepped : Stepped) (next : State) → Step s i stepped next → stepped.kind ≡ Plain
    → i.bursts ≡ 0 → Runs s (i ∷ []) ran after → ran ≡ step_of_cost stepped.ticks
ran_alone s after i ran stepped next step plain quiet (other, last, other_step, ends) =
    let same = one_step s i stepped other next last step other_step in
    by_ends (subst (λ (k : Kind). Ends (why_stopped k) s ran after ((more : Ran) × Runs last [] more after × (ran ≡ counted s.profile.burst i other more))) (ap (λ (t : Stepped). t.kind) same.0 ∙ plain) ends)
  where
    counted_alone : counted s.profile.burst i other (at_rest None) ≡ step_of_cost stepped.ticks
    counted_alone =
        let same = one_step s i stepped other next last step other_step in
        let ticks : other.ticks ≡ stepped.ticks = ap (λ (t : Stepped). t.ticks) same.0 in
        let no_burst : s.profile.burst * i.bursts ≡ 0 = ap (λ n. s.profile.burst * n) quiet ∙ omega arith in
        let a : other.ticks + 0 ≡ stepped.ticks = omega (arith, ticks) in
        let b : other.ticks + s.profile.burst * i.bursts + 0 ≡ stepped.ticks = omega (arith, ticks, no_burst) in
        λ j. record { steps = 1; ticks = a j; elapsed = b j; stopped = None }

    by_ends : (more : Ran) × Runs last [] more after × (ran ≡ counted s.profile.burst i other more) → ran ≡ step_of_cost stepped.ticks
    by_ends (more, (rest, at), is) =
        is ∙ ap (counted s.profile.burst i other) rest ∙ counted_alone

module _ (source : File) (words : Words) (names : Names) (profile : Profile) (st : Stated) (edge : Edge) (f : file.Stated) (text : List ℕ) (said : source_of source ≡ Ok (words, names))
    (states : IsMachineFile text (Ok f)) (tight : IsTightFile words st profile edge f) (own : AreOf words words) where
  runnable : All (λ e. IsFitted e.0) words → (start : State) → IsStarted f profile start → IsRunnable source text profile
  runnable fitted start begun = record {
    file = f;
    state = put_words f.words (put_words words start);
    placed = record {
      words = words;
      start = start;
      stated = record { names = names; source_is = said; file_is = states };
      started = begun;
      fits = tight.image_fits words start own begun fitted;
      file_fits = sym (lacks_after start (put_words [] start) [] f.words refl) ∙ tight.words_fit [] start begun;
      loaded = refl;
    };
  }

  record IsStep (s : State) (inputs : List Input) : Type 0 where
    one : HasOneInput f.schedule inputs
    takes : IsTight words st profile edge s one.input

  taken : (s : State) (inputs : List Input) → IsLoaded source text profile s inputs → IsStep s inputs
  taken s inputs loaded =
      let p = loaded.placed in
      let pairs : (p.words, p.stated.names) ≡ (words, names) = one_ok (p.words, p.stated.names) (words, names) (source_of source) p.stated.source_is said in
      let same_words : p.words ≡ words = ap (λ (x : Said). x.0) pairs in
      let files : Ok loaded.file ≡ Ok f = one_machine_file text (Ok loaded.file) (Ok f) p.stated.file_is states in
      let same_file : loaded.file ≡ f = cc files in
      let begun : IsStarted f profile p.start = subst (λ (x : file.Stated). IsStarted x profile p.start) same_file p.started in
      let state_is : s ≡ put_words f.words (put_words words p.start) =
      p.loaded ∙ (λ i. put_words ((same_file i).words) (put_words (same_words i) p.start)) in
      let inputs_are : AreInputs f.schedule inputs = subst (λ (x : file.Stated). AreInputs x.schedule inputs) same_file loaded.inputs_are in
      let one = one_input f.schedule inputs tight.one_step tight.no_events inputs_are in
      record {
        one = one;
        takes = subst (λ (x : State). IsTight words st profile edge x one.input) (sym state_is) (tight.tight words p.start one.input own (place_among words edge.from) begun one.port);
      }

  ran_once : (s after : State) (inputs : List Input) (ran : Ran) → IsStep s inputs → Runs s inputs ran after → ran ≡ step_of_cost edge.cost
  ran_once s after inputs ran step runs =
      let t = step.takes in
      let e = t.takes.executes in
      let alone : Runs s (step.one.input ∷ []) ran after = subst (λ (is : List Input). Runs s is ran after) step.one.alone runs in
      ran_alone s after step.one.input ran t.stepped t.after e.step e.plain step.one.bursts alone ∙ ap step_of_cost t.exact

  -- the text takes the edge
  pub takes_edge : All (λ e. IsFitted e.0) words → (start : State) → IsStarted f profile start → TakesEdge source text profile words st edge
  takes_edge fitted start begun = record {
    runnable = runnable fitted start begun;
    takes = λ s inputs loaded. (let step = taken s inputs loaded in (step.one.input, step.one.alone, step.takes));
    ran = λ s after inputs ran loaded runs. ran_once s after inputs ran (taken s inputs loaded) runs;
  }

-- ## The report

-- of a source and a statement that were read, and of their graph
module _ (source : File) (statement : List ℕ) (n : ℕ) (profile : Profile) (words : Words) (names : Names) (said : source_of source ≡ Ok (words, names)) (st : Stated) (flow : Flow)
    (read : IsStatement statement names (Ok st)) (none : (fault : BuildFault) → fault ≢ build_fault.Memory → IsBuildFault words st profile fault → ⊥) (is : IsFlowGraph words st profile flow) where
  graph : HasGraph source statement profile st flow
  graph = record { words = words; names = names; source_is = said; statement_is = read; no_fault = none; graph_is = is }

  pub tight_reported : (text : List ℕ) → IsEdgeText words st flow n text → IsTightReport source statement n profile text
  unfolding graph
  tight_reported text t = record {
    has = record { stated = st; flow = flow; graph = graph; edge = t.edge; is_free = t.is_free };
    document = t.text_is.document;
    spelled = t.text_is.spelled;
    takes =
        takes_edge source words names profile st t.edge t.file text said t.text_is.states
        (subst (λ (p : Profile). IsTightFile words st p t.edge t.file) is.profile_is t.made.tight)
        t.own t.is_free.fitted t.made.start
        (subst (λ (p : Profile). IsStarted t.file p t.made.start) is.profile_is t.made.begun);
  }

  edge_refused : (e : ReportFault) → IsEdgeRefused words flow n e → HasNoTightReport source statement n profile e
  unfolding graph
  edge_refused e r = record { stated = st; flow = flow; graph = graph; refused = r }

  -- why the edge has no report
  pub edge_refusal : (e : ReportFault) → (e ≡ Memory) ⊎ IsEdgeRefused words flow n e
      → BeforeOutput (IsTightRefused source statement n profile) e
  edge_refusal Memory r = (λ d. cc d, tt)
  edge_refusal report_fault.NoSuchEdge (inr r) = (λ d. cc d, edge_refused report_fault.NoSuchEdge r)
  edge_refusal (report_fault.NotFree a) (inr r) = (λ d. cc d, edge_refused (report_fault.NotFree a) r)
  edge_refusal (Load f) (inr r) = (λ d. cc d, edge_refused (Load f) r)
  edge_refusal e (inl memory) = (λ d. cc (memory, d), subst (IsTightRefused source statement n profile) (sym memory) tt)
  edge_refusal e (inr r) = absurd r

module _ (source : File) (statement : List ℕ) (n : ℕ) (profile : Profile) where
  abbrev IsRefusal : ReportFault → Type 0
  IsRefusal = BeforeOutput (IsTightRefused source statement n profile)

  -- the refusals of the source are those of any handler
  pub source_refused : (e : ReportFault) → IsSourceFault source e → IsRefusal e
  source_refused Memory h = (λ d. cc d, tt)
  source_refused (Source f) h = (λ d. cc d, h)
  source_refused (Image f) h = (λ d. cc d, h)
  source_refused (Dialect f) h = (λ d. cc d, h)
  source_refused e h = absurd h

  -- those of the statement and the graph too, but those of the loops
  pub handler_refused : (e : ReportFault) → ((f : NestFault) → e ≡ Loops f → ⊥) → IsHandlerRefused source statement profile e → IsRefusal e
  handler_refused Memory other h = (λ d. cc d, tt)
  handler_refused (Loops f) other h = absurd (other f refl)
  handler_refused (Source f) other h = (λ d. cc d, h)
  handler_refused (Image f) other h = (λ d. cc d, h)
  handler_refused (Dialect f) other h = (λ d. cc d, h)
  handler_refused (Statement f) other h = (λ d. cc d, h)
  handler_refused (Graph f) other h = (λ d. cc d, h)
  handler_refused e other h = absurd h

  -- ## What has a report is refused for lack of memory alone, or as the output fails

  one_edge : (flow : Flow) (e d : Edge) → IsEdgeAt flow n e → IsEdgeAt flow n d → e ≡ d
  one_edge flow e d h k = h.is ∙ get_or_default flow.edges n e d h.inside ∙ sym k.is

  record AreOne (h : HasTightReport source statement n profile) (words : Words) (flow : Flow) : Type 0 where
    words_are : words ≡ h.graph.words
    flow_is : flow ≡ h.flow

  are_one : (h : HasTightReport source statement n profile) (st : Stated) (flow : Flow) (g : HasGraph source statement profile st flow) → AreOne h g.words flow
  are_one h st flow g =
      let said : (g.words, g.names) ≡ (h.graph.words, h.graph.names) = one_ok (g.words, g.names) (h.graph.words, h.graph.names) (source_of source) g.source_is h.graph.source_is in
      record {
        words_are = ap (λ (s : Said). s.0) said;
        flow_is = (one_graph source statement profile st h.stated flow h.flow g h.graph).same_flow;
      }

  never_refused : (h : HasTightReport source statement n profile) (e : ReportFault) → IsEdgeRefused h.graph.words h.flow n e → ⊥
  never_refused h report_fault.NoSuchEdge r = omega (arith, r, h.is_free.at.inside)
  never_refused h (report_fault.NotFree a) r = r.not_free (subst (IsFree h.graph.words) (one_edge h.flow h.edge r.edge h.is_free.at r.at) h.is_free.free)
  never_refused h (Load f) r = r.past h.is_free.fitted
  never_refused h e r = r

  not_refused : (h : HasTightReport source statement n profile) (e : ReportFault) → HasNoTightReport source statement n profile e → ⊥
  not_refused h e r =
      let one = are_one h r.stated r.flow r.graph in
      never_refused h e (subst (λ (w : Words). IsEdgeRefused w h.flow n e) one.words_are (subst (λ (x : Flow). IsEdgeRefused r.graph.words x n e) one.flow_is r.refused))

  of_handler : (h : HasTightReport source statement n profile) (e : ReportFault) → ((f : NestFault) → e ≡ Loops f → ⊥) → IsHandlerRefused source statement profile e → (e ≡ Memory) ⊎ (e ≡ Device)
  of_handler h e other r =
      elim (graph_refusals source statement profile h.stated h.flow e h.graph r) [
        | inl memory ↦ inl memory
        | inr loops ↦ absurd (other loops.0 loops.1)
      ]

  tight_refusals : (e : ReportFault) → HasTightReport source statement n profile → IsTightRefused source statement n profile e → (e ≡ Memory) ⊎ (e ≡ Device)
  tight_refusals Memory h r = inl refl
  tight_refusals Device h r = inr refl
  tight_refusals report_fault.NoSuchEdge h r = absurd (not_refused h report_fault.NoSuchEdge r)
  tight_refusals (report_fault.NotFree a) h r = absurd (not_refused h (report_fault.NotFree a) r)
  tight_refusals (Load f) h r = absurd (not_refused h (Load f) r)
  tight_refusals (Source f) h r = of_handler h (Source f) (λ x is. cc is) r
  tight_refusals (Image f) h r = of_handler h (Image f) (λ x is. cc is) r
  tight_refusals (Dialect f) h r = of_handler h (Dialect f) (λ x is. cc is) r
  tight_refusals (Statement f) h r = of_handler h (Statement f) (λ x is. cc is) r
  tight_refusals (Graph f) h r = of_handler h (Graph f) (λ x is. cc is) r
  tight_refusals e h r = absurd r

  -- the same of an answer
  pub only_memory_or_device : {T : Type 0} (r : Result T ReportFault) → IfErr r IsRefusal → HasTightReport source statement n profile → IfErr r (λ e. (e ≡ Memory) ⊎ (e ≡ Device))
  only_memory_or_device (Ok x) h a = tt
  only_memory_or_device (Err e) h a = tight_refusals e a h.1

-- ## Of a source that was read

-- why the edge has no report comes alone
pub edge_alone : (words : Words) (flow : Flow) (n : ℕ) (e : ReportFault) → (e ≡ Memory) ⊎ IsEdgeRefused words flow n e → ComesAlone e
edge_alone words flow n e (inl memory) = subst ComesAlone (sym memory) tt
edge_alone words flow n (Statement f) (inr r) = r
edge_alone words flow n (Graph f) (inr r) = r
edge_alone words flow n (Loops f) (inr r) = r
edge_alone words flow n e (inr r) = tt

module _ (source : File) (statement : List ℕ) (said : ReadSource) (is : IsSource source said) (st : Stated) (flow : Flow) (g : HasGraph source statement flow.profile st flow) where
  own_words : g.words ≡ said.image
  own_words = ap (λ (s : Said). s.0) (one_ok (g.words, g.names) (said.image, address_of said.labels) (source_of source) g.source_is is.said)

  pub own_flow : IsFlowGraph said.image st flow.profile flow
  own_flow = subst (λ (w : Words). IsFlowGraph w st flow.profile flow) own_words g.graph_is

  pub edge_reported : (n : ℕ) (text : List ℕ) → IsEdgeText said.image st flow n text → IsTightReport source statement n flow.profile text
  edge_reported n text t =
      tight_reported source statement n flow.profile g.words g.names g.source_is st flow g.statement_is g.no_fault g.graph_is text
      (subst (λ (w : Words). IsEdgeText w st flow n text) (sym own_words) t)

  pub edge_unreported : (n : ℕ) (e : ReportFault) → (e ≡ Memory) ⊎ IsEdgeRefused said.image flow n e → BeforeOutput (IsTightRefused source statement n flow.profile) e
  edge_unreported n e r =
      edge_refusal source statement n flow.profile g.words g.names g.source_is st flow g.statement_is g.no_fault g.graph_is e
      (subst (λ (w : Words). (e ≡ Memory) ⊎ IsEdgeRefused w flow n e) (sym own_words) r)
