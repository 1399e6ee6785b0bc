-- Tests of what a draft claims. No part of what is proved of it: they are here since clauses of private
-- functions cite them, and a clause may cite definitions of specs/ alone.
use Rattle.std.specs.Prelude.{◌≡◌, ◌&&◌, ℕ, Bool, true, false, not, if◌then◌else◌, List, []}
use Rattle.std.specs.Prelude.{Contains, Option, Some, None}
use Rattle.std.specs.BTreeSet.{contains}
use Rattle.std.specs.List.{list_all, list_any}
use Rattle.std.specs.Ordering.{nat_cmp}
use Rattle.known_places.specs.OnTrust.{Justifies, OnTrust}
use Rattle.loop_bounds.specs.declared.handler.Handler.{Handler}
use Rattle.source_reports.specs.Proved.{ClassesFollow, CountsFollow, is_bounded_so}
use Rattle.source_reports.specs.declared.proof.Trusted.{Trusted}
use Rattle.sources.specs.File.{File}
use Rattle.sources.specs.Source.{Says}
use Rattle.sources.specs.declared.read.Source.{Source}
use Rattle.statement.specs.Stated.{Stated, class_at}
use Rattle.text_draft.specs.Rules.{is_same_class}
use Rattle.text_draft.specs.declared.accesses.FoundAccess.{FoundAccess}
use Rattle.text_draft.specs.declared.drafts.DraftParts.{DraftParts}
use Rattle.text_draft.specs.declared.found_loop.FoundLoop.{FoundLoop}
use Rattle.text_draft.specs.declared.grounds.Ground.{Ground}
use Rattle.text_draft.specs.declared.grounds.Ground.TheVariants.{Word, Proof, Pattern}

-- the set has all of the list
abbrev pub HasAll : (ℕ → Bool) → List ℕ → Type 0
HasAll has addresses = (a : ℕ) → Contains addresses a → has a ≡ true

-- the sets have all that is on trust
pub record AreTrusted (left : OnTrust) (trusted : Trusted) : Type 0 where
  pub classes : HasAll (contains nat_cmp trusted.classes) left.classes
  pub loops : HasAll (contains nat_cmp trusted.loops) left.loops

-- only where a proof is claimed has the test to hold
abbrev pub if_claimed : Ground → Bool → Bool
if_claimed Word holds = true
if_claimed Proof holds = holds
if_claimed Pattern holds = true

abbrev pub if_counted : Option ℕ → (ℕ → Bool) → Bool
if_counted None holds = true
if_counted (Some turns) holds = holds turns

module _ (st : Stated) (trusted : Trusted) where
  abbrev pub has_class : FoundAccess → Bool
  has_class e =
      is_same_class (class_at st e.at (Some e.base)) e.class && not (contains nat_cmp trusted.classes e.at)

  abbrev pub has_count : (header turns : ℕ) → Bool
  has_count header turns =
      list_any (is_bounded_so header turns) st.loops.list && not (contains nat_cmp trusted.loops header)

  abbrev pub class_stands : FoundAccess → Bool
  class_stands e = if_claimed e.basis (has_class e)

  abbrev pub count_stands : FoundLoop → Bool
  count_stands l = if l.proved then if_counted l.turns (has_count l.header) else true

  -- what is claimed holds
  abbrev pub all_stands : DraftParts → Bool
  all_stands parts =
      list_all class_stands parts.accesses.items && list_all count_stands parts.counted.items

-- nothing is claimed
abbrev pub claims_no_class : FoundAccess → Bool
claims_no_class e = if_claimed e.basis false

abbrev pub claims_no_count : FoundLoop → Bool
claims_no_count l = if l.proved then if_counted l.turns (λ turns. false) else true

abbrev pub claims_nothing : DraftParts → Bool
claims_nothing parts =
    list_all claims_no_class parts.accesses.items && list_all claims_no_count parts.counted.items

-- some file says the source
abbrev pub IsSaid : Source → Type 0
IsSaid read = (source : File) × Says source read

-- what is claimed follows by the handler's statement and graph
abbrev pub AllFollows : Handler → DraftParts → Type 0
AllFollows handler parts =
    (trusted : OnTrust)
    × Justifies handler.image.now handler.statement handler.graph [] trusted
    × ClassesFollow handler.statement trusted parts.accesses.items
    × CountsFollow handler.statement trusted parts.counted.items
