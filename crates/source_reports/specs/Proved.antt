-- Which classes and counts of a draft are proved.
use Rattle.std.specs.Prelude.{◌≡◌, ◌⊎◌, ◌==◌, ◌&&◌, ℕ, Bool, true, false, List, [], All, Contains, Some, None}
use Rattle.std.specs.Prelude.{Ok}
use Rattle.std.specs.List.{list_any}
use Rattle.bus_ticks.specs.declared.profile.Profile.{Profile}
use Rattle.control_flow.specs.Flow.{Flow}
use Rattle.control_flow.specs.Graph.{IsFlowGraph}
use Rattle.handlers.specs.Priced.{IsProfile}
use Rattle.image.specs.Labels.{address_of}
use Rattle.known_places.specs.OnTrust.{Justifies, OnTrust}
use Rattle.sources.specs.declared.read.Source.{Source}
use Rattle.statement.specs.Stated.{Stated, class_at}
use Rattle.statement.specs.Statement.{IsStatement}
use Rattle.statement.specs.declared.stated.Loop.{Loop}
use Rattle.text_draft.specs.Closed.{closed}
use Rattle.text_draft.specs.declared.accesses.FoundAccess.{FoundAccess}
use Rattle.text_draft.specs.declared.drafts.DraftParts.{DraftParts}
use Rattle.text_draft.specs.declared.found_loop.FoundLoop.{FoundLoop}
use Rattle.text_draft.specs.declared.grounds.Ground.TheVariants.{Proof}

-- the loop has that header and that bound
abbrev pub is_bounded_so : (header turns : ℕ) → Loop → Bool
is_bounded_so header turns l = (l.header == header) && (l.bound == turns)

module _ (st : Stated) (trusted : OnTrust) where
  -- the statement gives the load or store the class, which is not on trust
  pub record ClassFollows (e : FoundAccess) : Type 0 where
    pub stated : class_at st e.at (Some e.base) ≡ e.class
    pub follows : Contains trusted.classes e.at → ⊥

  -- the statement has the loop with that bound, which is not on trust
  pub record CountFollows (header turns : ℕ) : Type 0 where
    pub stated : list_any (is_bounded_so header turns) st.loops.list ≡ true
    pub follows : Contains trusted.loops header → ⊥

  -- each class that is written as proved
  abbrev pub ClassesFollow : List FoundAccess → Type 0
  ClassesFollow accesses = All (λ e. e.basis ≡ Proof → ClassFollows e) accesses

  -- and each count
  abbrev pub CountsFollow : List FoundLoop → Type 0
  CountsFollow loops =
      All (λ l. (turns : ℕ) → l.turns ≡ Some turns → l.proved ≡ true → CountFollows l.header turns) loops

-- no class and no count is written as proved
pub record ClaimsNothing (parts : DraftParts) : Type 0 where
  pub classes : All (λ e. e.basis ≡ Proof → ⊥) parts.accesses.items
  pub counts : All (λ l. (turns : ℕ) → l.turns ≡ Some turns → l.proved ≡ true → ⊥) parts.counted.items

-- It is left open of no word where it leads. The text is a statement on the source, where the greatest bound
-- that may be stated stands for an open one, and this is its graph by the first profile. Each class and each
-- count that is written as proved is stated by it, and follows from the code: it is not on trust
pub record FollowsFromCode (read : Source) (text : List ℕ) (parts : DraftParts) : Type 0 where
  pub settled : parts.open_left ≡ false
  pub stated : Stated
  pub statement_is : IsStatement (closed text) (address_of read.labels) (Ok stated)
  pub profile : Profile
  pub profile_is : IsProfile None profile
  pub flow : Flow
  pub graph_is : IsFlowGraph read.image stated profile flow
  pub trusted : OnTrust
  pub justifies : Justifies read.image stated flow [] trusted
  pub classes : ClassesFollow stated trusted parts.accesses.items
  pub counts : CountsFollow stated trusted parts.counted.items

-- what the text writes as proved is
abbrev pub IsProved : Source → (text : List ℕ) → DraftParts → Type 0
IsProved read text parts = ClaimsNothing parts ⊎ FollowsFromCode read text parts
