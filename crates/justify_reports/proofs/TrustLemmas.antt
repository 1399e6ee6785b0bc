-- What a bound says of runs that keep what is on trust.
use Rattle.std.proofs.Common.{◌≡◌, ◌≢◌, ℕ, Bool, List, [], ◌∷◌, Option, Some, None, sym, subst}
use Rattle.std.specs.Prelude.{IfSome}
use Rattle.bus_ticks.specs.declared.profile.Profile.{Profile}
use Rattle.image.specs.Image.{Words}
use Rattle.image.specs.Labels.{address_of}
use Rattle.statement.specs.Stated.{Stated}
use Rattle.arm2_exec.specs.State.{State}
use Rattle.arm2_exec.specs.declared.machine.Input.{Input}
use Rattle.control_flow.specs.Flow.{Flow}
use Rattle.control_flow.specs.Graph.{IsFlowGraph}
use Rattle.control_flow.specs.declared.edges.Edge.{Edge}
use Rattle.control_flow.specs.declared.places.Place.TheVariants.{Exit}
use Rattle.flow_graph.specs.StepLaw.{Follows, RunLaw}
use Rattle.loop_bounds.specs.Handler.{IsTreeOf}
use Rattle.loop_bounds.specs.Tree.{Tree}
use Rattle.longest_walk.specs.Longest.{IsLongest, IsWalkFault}
use Rattle.longest_walk.specs.declared.folded.Longest.{Longest}
use Rattle.numbered_walks.specs.declared.fault.WalkFault.{WalkFault}
use Rattle.numbered_walks.specs.declared.fault.WalkFault.TheVariants as walk_fault
use Rattle.known_words.specs.Given.{AreGiven}
use Rattle.known_words.specs.Knowledge.{AreWords}
use Rattle.known_words.specs.declared.given.Given.{Given}
use Rattle.known_words.specs.declared.words.Range.{Range}
use Rattle.known_places.specs.Destinations.{AreDestinations}
use Rattle.known_places.specs.Endless.{AreEndless}
use Rattle.known_places.specs.OnTrust.{GoesOnTrust, Justifies, OnTrust}
use Rattle.known_places.specs.Outside.{AreOutside}
use Rattle.known_places.specs.declared.destination.Destination.{Destination}
use Rattle.handlers.specs.Keeping.{BoundsRuns, KeepsStatement}
use Rattle.handlers.specs.Report.{HasLoops}
use Rattle.handlers.proofs.HandlerLemmas.{same_words}
use Rattle.handlers.proofs.ReportLemmas.{accepted, bounded, bounds_runs, tree_is_greatest}
use Rattle.sources.specs.Source.{IsSource}
use Rattle.sources.specs.declared.read.Source.{Source}
use Rattle.justify_reports.specs.JustifyReport.{IsJustifyReport, IsJustifyText, is_enough}
use Rattle.justify_reports.specs.Rows.{AreStatedRows}
use Rattle.justify_reports.specs.Trust.{BoundsOnTrust, IsJustified, KeepsOnTrust}
use Rattle.justify_reports.specs.declared.rows.Row.{Row}
use Rattle.sources.specs.File.{File}

-- ## The laws

pub bounded_on_trust : (words : Words) (st : Stated) (profile : Profile) (flow : Flow) (given : List Given) (trusted : OnTrust) (bound : ℕ) → flow.profile ≡ profile
    → Justifies words st flow given trusted → BoundsRuns words st profile flow bound → BoundsOnTrust words st profile flow given (Some trusted) bound
bounded_on_trust words st profile flow given trusted bound same follows bounds = λ s inputs ran after keeps runs.
    let both = follows s inputs keeps.walk Exit keeps.are_words keeps.are_given keeps.complete keeps.bounds keeps.goes in
    bounds s inputs ran after
    (record { walk = keeps.walk; complete = keeps.complete; kept = both.0; follows = subst (λ (p : Profile). Follows words st p s inputs keeps.walk) same both.1 }) runs

goes_on_trust : (words : Words) (st : Stated) (profile : Profile) (classes : List ℕ) (s : State) (inputs : List Input) (walk : List Edge) → Follows words st profile s inputs walk
    → GoesOnTrust words st profile classes s inputs walk
goes_on_trust words st profile classes s [] [] h = tt
goes_on_trust words st profile classes s [] (e ∷ walk) h = absurd h
goes_on_trust words st profile classes s (i ∷ inputs) [] h = absurd h
goes_on_trust words st profile classes s (i ∷ inputs) (e ∷ walk) h =
    let edge = h.2 in
    let does = edge.executes in (
      h.0,
      h.1,
      record {
        calls = edge.calls;
        action = edge.action;
        executes = record {
          registers = does.registers;
          prices = does.prices;
          has = does.has;
          fetches = does.fetches;
          step = does.step;
          plain = does.plain;
          transfers = λ among. does.transfers;
          cycles = does.cycles;
          way = does.way;
        };
        taken = edge.taken;
      },
      goes_on_trust words st profile classes h.1 inputs walk h.3,
    )

pub kept_on_trust : (words : Words) (st : Stated) (flow : Flow) (given : List Given) (trusted : OnTrust) (s : State) (inputs : List Input)
    → KeepsStatement words st flow.profile flow s inputs → AreWords s.regs → AreGiven given s.regs → KeepsOnTrust words st flow given trusted s inputs
kept_on_trust words st flow given trusted s inputs keeps are_words are_given = record {
  are_words = are_words;
  are_given = are_given;
  walk = keeps.walk;
  complete = keeps.complete;
  bounds = λ i is. keeps.kept i is.0;
  goes = goes_on_trust words st flow.profile trusted.classes s inputs keeps.walk keeps.follows;
}

-- ## The report

pub is_justified : (words : Words) (st : Stated) (profile : Profile) (flow : Flow) (given : List Given) (left : Option OnTrust) (bound : ℕ) → flow.profile ≡ profile
    → IfSome left (Justifies words st flow given) → BoundsRuns words st profile flow bound → IsJustified words st profile flow given left bound
is_justified words st profile flow given None bound same follows bounds = record { follows = follows; bounds = bounds }
is_justified words st profile flow given (Some trusted) bound same follows bounds =
    record { follows = follows; bounds = bounded_on_trust words st profile flow given trusted bound same follows bounds }

module _ (source : File) (statement : List ℕ) (profile : Profile) (read : Source) (is_read : IsSource source read) (st : Stated) (flow : Flow) (tree : Tree)
    (loops : HasLoops source statement profile st flow) where
  pub own_words : loops.graph.words ≡ read.image
  own_words = sym (same_words source statement profile read.image (address_of read.labels) st flow is_read.said loops)

  pub own_graph : IsFlowGraph read.image st flow.profile flow
  own_graph =
      subst (λ (p : Profile). IsFlowGraph read.image st p flow) (sym loops.graph.graph_is.profile_is)
      (subst (λ (w : Words). IsFlowGraph w st profile flow) own_words loops.graph.graph_is)

  pub justified : (of : IsTreeOf flow st.loops tree) → RunLaw → (given : List Given) (all enough : Bool) (left : Option OnTrust) (goes : List Destination) (outside : List (Option Range)) (endless : List Bool) (rows : List Row) (l : Longest) (text : List ℕ)
      → IsLongest flow tree l → ((f : WalkFault) → f ≢ walk_fault.Memory → IsWalkFault flow tree f → ⊥) → IfSome left (Justifies read.image st flow given)
      → AreDestinations read.image st flow tree given goes → AreOutside read.image st flow tree given outside → AreEndless read.image st flow tree given endless → AreStatedRows read.image st flow tree left goes outside endless rows → IsJustifyText read given left rows l.bound profile.burst text → enough ≡ is_enough all rows
      → IsJustifyReport source statement given all profile enough text
  unfolding accepted bounded
  justified of law given all enough left goes outside endless rows l text is allowed follows go out never are is_text answer = record {
    bounded = bounded source statement profile st flow tree loops of l is allowed;
    read = read;
    left = left;
    destinations = goes;
    outside = outside;
    endless = endless;
    rows = rows;
    is_read = is_read;
    justified =
        is_justified loops.graph.words st profile flow given left l.bound loops.graph.graph_is.profile_is
        (subst (λ (w : Words). IfSome left (Justifies w st flow given)) (sym own_words) follows)
        (bounds_runs loops.graph.words profile st flow l.bound law (tree_is_greatest flow st.loops tree of.instances l.bound is.greatest));
    goes = subst (λ (w : Words). AreDestinations w st flow tree given goes) (sym own_words) go;
    goes_outside = subst (λ (w : Words). AreOutside w st flow tree given outside) (sym own_words) out;
    never_left = subst (λ (w : Words). AreEndless w st flow tree given endless) (sym own_words) never;
    are_rows = are;
    text_is = is_text;
    answer_is = answer;
  }
