-- The text of a response time.
use Rattle.std.specs.Prelude.{◌≡◌, ℕ, ◌+◌, ◌-◌, nat_le, max, if◌then◌else◌, Bool, true, false, List, []}
use Rattle.std.specs.Prelude.{◌++◌, codes, decimal, Option, Some, None, option_map}
use Rattle.bus_ticks.specs.Worst.{fiq_entry}
use Rattle.bus_ticks.specs.declared.profile.Profile.{Profile}
use Rattle.longest_walk.specs.Visits.{visits_bound}
use Rattle.responses.specs.Entry.{entry_ticks}
use Rattle.responses.specs.Response.{response_time}
use Rattle.responses.specs.declared.interrupts.Interrupt.{Interrupt}
use Rattle.responses.specs.declared.interrupts.Interrupt.TheVariants.{Irq, Fiq}
use Rattle.responses.specs.declared.response.ResponseParts.{ResponseParts}
use Rattle.text_explained.specs.Bursts.{AreBurstLines, AreFewest, with_bursts}
use Rattle.text_explained.specs.Columns.{microseconds_text}
use Rattle.text_explained.specs.declared.bursts.Bursts.{Bursts}
use Rattle.response_reports.specs.Question.{Question}
use Rattle.response_reports.specs.declared.visits.FiqVisits.{FiqVisits}

-- the sum of the parts
abbrev pub response_of : Profile → ResponseParts → ℕ
response_of profile p = response_time profile p.interrupt p.longest p.masked p.arrival p.own

-- ## The parts

abbrev pub interrupt_name : Interrupt → List ℕ
interrupt_name Irq = codes "irq"
interrupt_name Fiq = codes "fiq"

-- a part, in ticks
abbrev pub part_line : (name : List ℕ) → (ticks : ℕ) → List ℕ
part_line name ticks = name ++ (codes " " ++ (decimal ticks ++ codes "\n"))

-- a time
abbrev pub time_words : ℕ → List ℕ
time_words ticks =
    decimal ticks ++ (codes " ticks, " ++ (microseconds_text ticks ++ codes " microseconds at 8 MHz"))

abbrev pub heading_text : Interrupt → (label : List ℕ) → List ℕ
heading_text interrupt label =
    codes "arcwcet respond\n" ++ (interrupt_name interrupt ++ (codes " to " ++ (label ++ codes "\n")))

abbrev pub part_lines : Profile → ResponseParts → List ℕ
part_lines profile p =
    part_line (codes "in progress") p.longest
    ++ (part_line (codes "masked") p.masked
    ++ (part_line (codes "entry") (entry_ticks profile p.interrupt)
    ++ (part_line (codes "arrival") p.arrival
    ++ part_line (codes "step") p.own)))

abbrev pub response_line : (ticks : ℕ) → List ℕ
response_line ticks = codes "response " ++ (time_words ticks ++ codes "\n")

-- the interrupt and the label, the parts, and their sum
abbrev pub parts_text : Profile → (label : List ℕ) → ResponseParts → List ℕ
parts_text profile label p =
    heading_text p.interrupt label ++ (part_lines profile p ++ response_line (response_of profile p))

-- ## With bursts, by the price of one

-- with so many bursts in all, if a number is given
abbrev pub count_time : (price response : ℕ) → Option ℕ → ℕ
count_time price response None = response
count_time price response (Some count) = with_bursts price response count

-- with a burst every so many ticks, if a number is given; None where it never ends
abbrev pub IsEveryTime : (price response : ℕ) → Option ℕ → Option ℕ → Type 0
IsEveryTime price response None time = time ≡ Some response
IsEveryTime price response (Some every) time =
    (fewest : Option ℕ) × AreFewest price response every fewest
    × (time ≡ option_map (with_bursts price response) fewest)

-- the greatest of the times with bursts that are printed: none is less than the one without; None where one
-- never ends
abbrev pub IsGreatestTime : (price response : ℕ) → Bursts → Option ℕ → Type 0
IsGreatestTime price response bursts time =
    (every : Option ℕ) × IsEveryTime price response bursts.every every
    × (time ≡ option_map (max (count_time price response bursts.count)) every)

-- ## With visits of FIQ's handler

-- the response with them; None where it never ends
abbrev pub visited_time : Profile → (response : ℕ) → FiqVisits → Option ℕ
visited_time profile response v = option_map (visits_bound profile response v.bound) v.visits

abbrev pub visits_text : Profile → (response bound : ℕ) → Option ℕ → List ℕ
visits_text profile response bound None = codes "it never ends\n"
visits_text profile response bound (Some k) =
    decimal k
    ++ (codes " visits of "
    ++ (decimal (bound + fiq_entry profile)
    ++ (codes ": " ++ (time_words (visits_bound profile response bound k) ++ codes "\n"))))

-- nothing where FIQ is not asked for
abbrev pub fiq_line : Profile → (response : ℕ) → Option FiqVisits → List ℕ
fiq_line profile response None = []
fiq_line profile response (Some v) =
    codes "with fiq every "
    ++ (decimal v.every
    ++ (codes " ticks, waited "
    ++ (decimal v.waited ++ (codes ": " ++ visits_text profile response v.bound v.visits))))

-- the greater of two times; None where one never ends
abbrev pub greater_time : Option ℕ → Option ℕ → Option ℕ
greater_time None other = None
greater_time (Some time) other = option_map (max time) other

-- with the time with visits, where FIQ is asked for
abbrev pub with_visits : Profile → (response : ℕ) → Option FiqVisits → Option ℕ → Option ℕ
with_visits profile response None time = time
with_visits profile response (Some v) time = greater_time time (visited_time profile response v)

-- ## What is wanted

-- the greatest time is at most so many ticks, if they are given
abbrev pub is_within : Option ℕ → Option ℕ → Bool
is_within None time = true
is_within (Some within) None = false
is_within (Some within) (Some time) = nat_le time within

-- by how much it is less, or more
abbrev pub margin_text : (within : ℕ) → Option ℕ → List ℕ
margin_text within None = codes "missed, it never ends"
margin_text within (Some time) =
    if nat_le time within then time_words (within - time) ++ codes " to spare"
    else codes "missed by " ++ time_words (time - within)

-- nothing where no ticks are given
abbrev pub within_line : Option ℕ → Option ℕ → List ℕ
within_line None time = []
within_line (Some within) time =
    codes "within " ++ (decimal within ++ (codes " ticks: " ++ (margin_text within time ++ codes "\n")))

-- ## The text

-- the parts, then the times with bursts and with visits, then whether the greatest of the times is within
-- what is wanted, which is the answer
pub record IsResponseText (profile : Profile) (q : Question) (parts : ResponseParts)
    (visits : Option FiqVisits) (answer : Bool) (text : List ℕ) : Type 0 where
  pub burst_lines : List ℕ
  pub are_burst_lines : AreBurstLines profile.burst (response_of profile parts) q.bursts burst_lines
  pub without : Option ℕ
  pub is_greatest : IsGreatestTime profile.burst (response_of profile parts) q.bursts without
  pub greatest : Option ℕ
  pub greatest_is : greatest ≡ with_visits profile (response_of profile parts) visits without
  pub answer_is : answer ≡ is_within q.within greatest
  pub text_is : text
      ≡ parts_text profile q.label parts
      ++ (burst_lines
      ++ (fiq_line profile (response_of profile parts) visits ++ within_line q.within greatest))
