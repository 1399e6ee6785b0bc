-- Instances of the stated loops, and their members. A loop is stated by addresses, and words lie for loops
-- where lies_at says; inside each list of calls with which its header is reached it is an instance of its
-- own.
use Rattle.std.specs.Prelude.{◌≡◌, ℕ, Bool, false, ◌&&◌, List, [], ◌∷◌, ◌++◌, Contains, nat_eq, ◌==◌}
use Rattle.std.specs.Cmp.Lexicographic.{pointwise}
use Rattle.walks.specs.Greatest.{Loops, is_back_edge}
use Rattle.control_flow.specs.declared.edges.Edge.{Edge}
use Rattle.control_flow.specs.declared.places.Place.{Place}
use Rattle.control_flow.specs.declared.places.Place.TheVariants.{At, Exit}
use Rattle.statement.specs.Stated.{StatedLoops, lies_within}
use Rattle.statement.specs.declared.apart.ApartStretch.{ApartStretch}
use Rattle.statement.specs.declared.stated.Loop.{Loop}
use Rattle.control_flow.specs.Flow.{Flow, edge_shape}

-- the calls inside of which the loop is taken, the addresses of its header and of its first and last
-- instruction, the most back edges that one stay takes, and the stretches apart
pub record Instance : Type 0 where
  pub list : List ℕ
  pub header : ℕ
  pub first : ℕ
  pub last : ℕ
  pub bound : ℕ
  pub apart : List ApartStretch

-- the key begins with the list, and goes on with the address of a word that lies from first to last, where
-- words lie for loops
abbrev pub holds : List ApartStretch → ℕ → ℕ → List ℕ → List ℕ → Bool
holds apart first last [] [] = false
holds apart first last [] (a ∷ key) = lies_within apart first a last
holds apart first last (x ∷ list) [] = false
holds apart first last (x ∷ list) (a ∷ key) = nat_eq a x && holds apart first last list key

-- The key of a place is its calls and then its address. So one test says both: the places with the instance's
-- list whose word lies from first to last, and those deeper, whose list goes on with such a call. A word lies
-- there exactly where its address is one from first to last, and it is apart exactly where the loop's first
-- word is (the law words_lie_by_address in statement).
abbrev pub is_member : Instance → Place → Bool
is_member i (At calls address) = holds i.apart i.first i.last i.list (calls ++ address ∷ [])
is_member i Exit = false

-- the place with the instance's list, at the header's address
abbrev pub is_header : Instance → Place → Bool
is_header i (At calls address) = pointwise ◌==◌ calls i.list && (address == i.header)
is_header i Exit = false

abbrev pub place_loops : Loops Place Instance
place_loops = record { is_member = is_member; is_header = is_header; bound = λ i. i.bound }

abbrev pub instance_of : List ApartStretch → Loop → List ℕ → Instance
instance_of apart l list =
    record {
      list = list;
      header = l.header;
      first = l.first;
      last = l.last;
      bound = l.bound;
      apart = apart;
    }

-- a back edge of the loop's instance for the calls of the place to which it leads
abbrev pub is_back_edge_to : List ApartStretch → Loop → Edge → Place → Bool
is_back_edge_to apart l e (At list address) =
    is_back_edge edge_shape place_loops (instance_of apart l list) e
is_back_edge_to apart l e Exit = false

abbrev pub is_back_edge_of : List ApartStretch → Loop → Edge → Bool
is_back_edge_of apart l e = is_back_edge_to apart l e e.to

-- a stated loop, and a list of calls with which its header is a place
pub record IsInstance (flow : Flow) (loops : StatedLoops) (i : Instance) : Type 0 where
  pub stated_loop : Loop
  pub stated : Contains loops.list stated_loop
  pub reached : Contains flow.places (At i.list i.header)
  pub parts : i ≡ instance_of loops.apart stated_loop i.list
