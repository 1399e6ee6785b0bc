-- What is asked of a handler's response.
use Rattle.std.specs.Prelude.{ℕ, List, [], ◌∷◌, ◌++◌, Option, Some, None, map, option_map}
use Rattle.text_explained.specs.declared.bursts.Bursts.{Bursts}
use Rattle.handlers.specs.FiqHandler.{fiq_bytes}
use Rattle.handlers.specs.Refusal.{StatedSource}
use Rattle.response_reports.specs.declared.asked.AskedFiq.{AskedFiq}
use Rattle.response_reports.specs.declared.asked.AskedResponse.{AskedResponse}
use Rattle.sources.specs.File.{File, file_of}

-- FIQ's handler, which visits the response: its own source, if it is another one, and the statement on it;
-- FIQ is asked for at most once in `every` ticks, and may have waited for so many ticks as the response
-- begins
pub record FiqQuestion : Type 0 where
  pub own : Option File
  pub statement : List ℕ
  pub every : ℕ
  pub waited : Option ℕ

-- a source, the statement on a handler of it, and the label or address where the response ends; the most
-- ticks of the step in progress, if they are given; so many ticks for which the interrupt is held back, and
-- the statements on the stretches of code that hold it back too; bursts; FIQ's visits; and the most ticks
-- that are wanted
pub record Question : Type 0 where
  pub source : File
  pub statement : List ℕ
  pub label : List ℕ
  pub longest : Option ℕ
  pub masked : Option ℕ
  pub masked_by : List (List ℕ)
  pub bursts : Bursts
  pub fiq : Option FiqQuestion
  pub within : Option ℕ

-- the code's question, as the definitions have it
abbrev pub fiq_question : AskedFiq → FiqQuestion
fiq_question asked =
    record {
      own = option_map file_of asked.source;
      statement = asked.statement.now;
      every = asked.every;
      waited = asked.waited;
    }

abbrev pub question_of : AskedResponse → Question
question_of asked =
    record {
      source = file_of asked.source;
      statement = asked.statement.now;
      label = asked.label.now;
      longest = asked.longest;
      masked = asked.masked;
      masked_by = map (λ v. v.items) asked.masked_by.now;
      bursts = asked.bursts;
      fiq = option_map fiq_question asked.fiq;
      within = asked.within;
    }

-- ## The sources and the statements on them, in the order of the work

-- the statements on the source, the handler's first
abbrev pub statements_of : Question → List (List ℕ)
statements_of q = q.statement ∷ q.masked_by

-- that of FIQ's handler, where it is asked for
abbrev pub fiq_part : (source : File) → Option FiqQuestion → List StatedSource
fiq_part source None = []
fiq_part source (Some fiq) = (fiq_bytes source fiq.own, fiq.statement) ∷ []

abbrev pub parts_asked : Question → List StatedSource
parts_asked q = map (λ text. (q.source, text)) (statements_of q) ++ fiq_part q.source q.fiq
