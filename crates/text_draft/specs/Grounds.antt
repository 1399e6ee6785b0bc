-- What the classes and counts rest on that a draft writes.
use Rattle.std.specs.Prelude.{◌≡◌, ◌⊎◌, ◌&&◌, ◌||◌, ◌==◌, ℕ, Bool, true, false, if◌then◌else◌, List, All, map}
use Rattle.std.specs.BTreeSet.{contains}
use Rattle.std.specs.List.{list_any}
use Rattle.std.specs.Ordering.{nat_cmp}
use Rattle.arm2_decode.specs.declared.names.Register.{Register}
use Rattle.bus_ticks.specs.declared.profile.Class.{Class}
use Rattle.image.specs.Image.{Words}
use Rattle.text_draft.specs.Accesses.{RestsOnWord}
use Rattle.text_draft.specs.Picks.{Picks}
use Rattle.text_draft.specs.Rules.{has_both}
use Rattle.text_draft.specs.declared.accesses.FoundAccess.{FoundAccess}
use Rattle.text_draft.specs.declared.found_loop.FoundLoop.{FoundLoop}
use Rattle.text_draft.specs.declared.grounds.Claims.{Claims}
use Rattle.text_draft.specs.declared.grounds.Ground.{Ground}
use Rattle.text_draft.specs.declared.grounds.Ground.TheVariants.{Word, Proof, Pattern}
use Rattle.text_draft.specs.declared.rules.FoundRule.{FoundRule}

-- ## What is claimed

-- a proof is claimed for the class at the address
abbrev pub claims_class : Claims → ℕ → Bool
claims_class claims at = claims.all || contains nat_cmp claims.classes at

-- and for the count of the loop with that header
abbrev pub claims_loop : Claims → ℕ → Bool
claims_loop claims header = claims.all || contains nat_cmp claims.loops header

-- ## Loads and stores

-- an access without what its class rests on
abbrev pub plain : FoundAccess → ℕ × (Register × Class)
plain e = (e.at, (e.base, e.class))

-- what a class rests on that the word alone does not show
abbrev pub by_claim : Bool → Ground
by_claim true = Proof
by_claim false = Pattern

module _ (words : Words) (claims : Claims) where
  -- the class rests on the word alone; else on a proof, where one is claimed, and else on a pattern
  abbrev pub IsGroundOf : (at : ℕ) → Class → Ground → Type 0
  IsGroundOf at class basis =
      ((basis ≡ Word) × RestsOnWord words at class)
      ⊎ ((basis ≡ by_claim (claims_class claims at)) × (RestsOnWord words at class → ⊥))

  abbrev pub IsGround : FoundAccess → Type 0
  IsGround e = IsGroundOf e.at e.class e.basis

  -- the same accesses, with what their classes rest on
  pub record AreGrounded (accesses grounded : List FoundAccess) : Type 0 where
    pub same : map plain grounded ≡ map plain accesses
    pub grounds : All IsGround grounded

-- ## Rules

abbrev pub ground_number : Ground → ℕ
ground_number Word = 0
ground_number Proof = 1
ground_number Pattern = 2

abbrev pub is_same_ground : Ground → Ground → Bool
is_same_ground basis other = ground_number basis == ground_number other

-- the access has the rule's base and class
abbrev pub covers : FoundRule → FoundAccess → Bool
covers r e = has_both r.register r.class e

-- the class of one of those rests on that
abbrev pub has_ground : List FoundAccess → FoundRule → Ground → Bool
has_ground accesses r basis = list_any (λ e. covers r e && is_same_ground basis e.basis) accesses

-- a rule rests on the weakest of what theirs rest on
abbrev pub rule_ground : List FoundAccess → FoundRule → Ground
rule_ground accesses r =
    if has_ground accesses r Pattern then Pattern else if has_ground accesses r Proof then Proof else Word

abbrev pub with_ground : List FoundAccess → FoundRule → FoundRule
with_ground accesses r = record r { basis = rule_ground accesses r }

-- the rule stands for the access: it has its base and class, and rests on the same
abbrev pub stands_for : FoundAccess → FoundRule → Bool
stands_for e r = covers r e && is_same_ground r.basis e.basis

abbrev pub is_covered : List FoundRule → FoundAccess → Bool
is_covered rules e = list_any (stands_for e) rules

-- exactly the accesses for which no rule stands, in their order
abbrev pub AreEntries : List FoundAccess → List FoundRule → List FoundAccess → Type 0
AreEntries accesses rules = Picks (λ e. is_covered rules e ≡ false) accesses

-- ## Loops

abbrev pub with_claim : Claims → FoundLoop → FoundLoop
with_claim claims l = record l { proved = claims_loop claims l.header }

-- ## All

-- what is written of accesses, rules and loops that were found
pub record AreGraded (words : Words) (claims : Claims) (accesses : List FoundAccess) (rules : List FoundRule)
    (loops : List FoundLoop) (grounded : List FoundAccess) (ruled : List FoundRule) (entries : List FoundAccess)
    (counted : List FoundLoop) : Type 0 where
  pub accesses_are : AreGrounded words claims accesses grounded
  pub rules_are : ruled ≡ map (with_ground grounded) rules
  pub entries_are : AreEntries grounded ruled entries
  pub loops_are : counted ≡ map (with_claim claims) loops
