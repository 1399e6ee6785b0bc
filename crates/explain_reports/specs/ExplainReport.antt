-- Where the ticks of a handler's greatest run time go.
use Rattle.std.specs.Prelude.{◌≡◌, ℕ, Bool, true, nat_le, List, ◌++◌, Option, Some, None}
use Rattle.std.specs.Prelude.{IfSome, Result}
use Rattle.bus_ticks.specs.declared.profile.Profile.{Profile}
use Rattle.sources.specs.Source.{IsSource}
use Rattle.sources.specs.declared.read.Source.{Source}
use Rattle.statement.specs.Stated.{Stated}
use Rattle.control_flow.specs.Flow.{Flow}
use Rattle.longest_walk.specs.Folded.{unfolded}
use Rattle.longest_walk.specs.declared.folded.Longest.{Longest}
use Rattle.text_explained.specs.Assumed.{AreAssumptions}
use Rattle.text_explained.specs.Bursts.{AreBurstLines}
use Rattle.text_explained.specs.declared.bursts.Bursts.{Bursts}
use Rattle.text_explained.specs.declared.table.RowForm.{RowForm}
use Rattle.text_explained.specs.Idle.{AreIdleEntries}
use Rattle.text_explained.specs.Rules.{AreRuleLines}
use Rattle.text_explained.specs.Starts.{IsLatestStart}
use Rattle.text_explained.specs.Sums.{AreLoopSums, AreRoutineSums}
use Rattle.text_explained.specs.Printed.{IsTable}
use Rattle.text_explained.specs.Table.{WordStarts, all_ticks}
use Rattle.text_explained.specs.Taken.{is_reached, taken_at}
use Rattle.text_masked.specs.Sections.{AreMaskSections}
use Rattle.text_savings.specs.Sections.{IsSavingsText}
use Rattle.walk_contradictions.specs.Contradictions.{IsContradictionSection}
use Rattle.handlers.specs.Answers.{Answers}
use Rattle.explain_reports.specs.Each.{IsAskedEach}
use Rattle.explain_reports.specs.FirstStarts.{AreAskedFirst}
use Rattle.explain_reports.specs.RunTimes.{BeginsWithin, EndsWithin, FirstBeginsWithin}
use Rattle.explain_reports.specs.declared.explain.TableForm.{TableForm}
use Rattle.handlers.specs.Report.{IsAccepted, IsBounded, IsRefused}
use Rattle.handlers.specs.declared.fault.ReportFault.{ReportFault}
use Rattle.sources.specs.File.{File}

-- ## The explanation

-- by the lines of a text, or by the words of an image: the table, then what bursts add to the bound, then
-- what the walk takes of each loop and of each routine, then where its conditions exclude one another, then
-- what is taken for granted, then how many words each rule for a base register covers, then the entries of
-- the statement without effect, then the longest step and how long interrupts are masked, and then what
-- better entries would save
pub record IsTextOf (source : Source) (stated : Stated) (flow : Flow) (longest : Longest)
    (starts : WordStarts) (rows : RowForm) (price : ℕ) (bursts : Bursts) (text : List ℕ) : Type 0 where
  pub table : List ℕ
  pub burst_lines : List ℕ
  pub loop_sums : List ℕ
  pub routine_sums : List ℕ
  pub contradictions : List ℕ
  pub assumptions : List ℕ
  pub rules : List ℕ
  pub idle : List ℕ
  pub masks : List ℕ
  pub savings : List ℕ
  pub is_table : IsTable source source.image stated flow (unfolded longest.walk) starts longest.bound rows
      table
  pub are_burst_lines : AreBurstLines price longest.bound bursts burst_lines
  pub are_loop_sums : AreLoopSums source stated.loops flow (unfolded longest.walk) longest.bound loop_sums
  pub are_routine_sums : AreRoutineSums source source.image flow (unfolded longest.walk) longest.bound
      routine_sums
  pub are_contradictions : IsContradictionSection source source.image (unfolded longest.walk) contradictions
  pub are_assumptions : AreAssumptions source source.image stated flow assumptions
  pub are_rules : AreRuleLines source.image stated flow rules
  pub are_idle : AreIdleEntries source.image stated flow idle
  pub are_masks : AreMaskSections source source.image stated.loops flow masks
  pub are_savings : IsSavingsText source source.image stated flow (unfolded longest.walk) savings
  pub text_is : text
      ≡ table
      ++ (burst_lines ++ loop_sums ++ routine_sums ++ contradictions ++ assumptions ++ rules ++ idle ++ masks
      ++ savings)

-- the ticks of all rows of the table are the bound
abbrev pub IsTotal : Source → Flow → Longest → Type 0
IsTotal source flow longest =
    all_ticks (taken_at flow (unfolded longest.walk)) source.image source.text ≡ longest.bound

-- ## The report

-- of an accepted source and statement: the table of a greatest walk, whose cost is the bound, as the ticks
-- of all rows are, with when each word begins at the latest on any walk, and so in any run, and when it does
-- for the first time, if that is asked for; what bursts add to the bound, and so to any run in which they
-- come so often; what the walk takes of each loop and each routine; where its conditions exclude one another;
-- what is taken for granted of the words that are reached; what each rule for a base register covers; the
-- entries of the statement without effect; the longest step and how long interrupts are masked; and what
-- better entries would save
pub record IsExplanation (source : File) (statement : List ℕ) (bursts : Bursts) (form : TableForm)
    (profile : Profile) (bound : ℕ) (text : List ℕ) : Type 0 where
  pub bounded : IsBounded source statement profile
  pub starts : WordStarts
  pub latest_is : (a : ℕ) → IsLatestStart bounded.accepted.flow bounded.tree a (starts.latest a)
  pub begins : (a : ℕ) → BeginsWithin bounded.accepted.loops.graph.words bounded.accepted.stated
      bounded.accepted.flow bounded.tree a (starts.latest a)
  pub first_are : AreAskedFirst bounded.accepted.flow bounded.accepted.stated.loops form.first starts.first
  pub first_begins : IfSome starts.first (λ first.
      (a : ℕ) → is_reached bounded.accepted.flow.places a ≡ true
      → FirstBeginsWithin bounded.accepted.loops.graph.words bounded.accepted.stated
      bounded.accepted.flow bounded.tree a (first a))
  pub bound_is : bounded.longest.bound ≡ bound
  pub ends : EndsWithin bounded.accepted.loops.graph.words bounded.accepted.stated profile
      bounded.accepted.flow bounded.longest.bound
  pub read : Source
  pub is_read : IsSource source read
  pub explains : IsTextOf read bounded.accepted.stated bounded.accepted.flow bounded.longest starts form.rows
      profile.burst bursts text
  pub total : IsTotal read bounded.accepted.flow bounded.longest

-- the explanation, and after it the bounds for each destination of a target alone, if they are asked for
pub record IsFullExplanation (source : File) (statement : List ℕ) (bursts : Bursts) (form : TableForm)
    (each : Bool) (profile : Profile) (bound : ℕ) (text : List ℕ) : Type 0 where
  pub front : List ℕ
  pub last : List ℕ
  pub explains : IsExplanation source statement bursts form profile bound front
  pub last_is : IsAskedEach each source statement profile last
  pub text_is : text ≡ front ++ last

-- no more ticks than are wanted, without bursts; any number where none is
abbrev pub is_enough : Option ℕ → ℕ → Bool
is_enough None bound = true
is_enough (Some most) bound = nat_le bound most

-- with the answer whether the bound is enough
pub record IsExplainReport (source : File) (statement : List ℕ) (at_most : Option ℕ) (bursts : Bursts)
    (form : TableForm) (each : Bool) (profile : Profile) (answer : Bool) (text : List ℕ) : Type 0 where
  pub bound : ℕ
  pub explains : IsFullExplanation source statement bursts form each profile bound text
  pub answer_is : answer ≡ is_enough at_most bound

-- the answer to a source and a statement: their explanation
abbrev pub Explains : {O : Type 0} → (O → Option (List ℕ)) → (O → ℕ) → File → List ℕ → Option ℕ → Bursts
    → TableForm → (each : Bool) → Profile → O → O → Result Bool ReportFault → Type 0
Explains taken failures source statement at_most bursts form each profile old new result =
    Answers taken failures (IsExplainReport source statement at_most bursts form each profile)
    (IsAccepted source statement profile) (IsRefused source statement profile) old new result
