-- What a line of words asks of the program, by clap's function for a simple command. The commands are our
-- own.
use Rattle.std.specs.Prelude.{ℕ, Bool, pos, true, false, not, List, [], ◌∷◌, ◌++◌, Option, Some, None, String}
use Rattle.std.specs.Prelude.{is_some}
use Rattle.std.specs.Prelude.{codes, find, fold, is_none, map, option_and_then, ◌==◌}
use Rattle.std.specs.Prelude.{string_bytes, unwrap_or, if◌then◌else◌, ◌&&◌, ◌||◌}
use Rattle.std.specs.List.{after_first, before_first, list_all, list_any}
use Rattle.std.specs.declared.alloc.Global.{Global}
use Rattle.std.specs.Str.{bytes_eq}
use Rattle.std.specs.Str.Parse.{digits_value, without_leading_plus}
use Rattle.clap.specs.Lexer.{usize_max}
use Rattle.clap.specs.declared.builder.range.ValueRange.{ValueRange}
use Rattle.asm_text.specs.Numbers.{read_number}
use Rattle.clap.specs.Walk.{Row, Rule, Text, all_of, one_of}
use Rattle.clap.specs.Simple.{App, new_app, new_rule, on_top, subcommand_of, with_rule, with_subcommand}
use Rattle.clap.specs.Faults.{fault_of}
use Rattle.clap.specs.Kinds.{Kinds}
use Rattle.clap.specs.ValueTests.{is_unsigned_in}
use Rattle.clap.specs.declared.builder.action.ArgAction.TheVariants.{Append, SetTrue}
use Rattle.clap.specs.declared.builder.value_parser.ValueParser.TheVariants as parser
use Rattle.command_line.specs.declared.line.Command.{Command}
use Rattle.command_line.specs.declared.line.Command.TheVariants as command
use Rattle.command_line.specs.declared.line.CommandNumbers.{CommandNumbers}
use Rattle.command_line.specs.declared.command_rows.Form.{Form}
use Rattle.command_line.specs.declared.command_rows.Form.TheVariants as form

-- ## The commands

-- an argument: its name, how it is given, and what is asked for instead where it is given
pub record Argument : Type 0 where
  pub id : Text
  pub form : Form
  pub instead : Option Command

-- how a command is used: its name, what it asks for, and its arguments, with the files in the order in which
-- they are read, an option's too
pub record Usage : Type 0 where
  pub name : Text
  pub command : Command
  pub arguments : List Argument

abbrev pub argument : Text → Form → Argument
argument id form = record { id = id; form = form; instead = None }

-- an option that asks for another command
abbrev pub other : Text → Form → Command → Argument
other id form instead = record { id = id; form = form; instead = Some instead }

abbrev pub usage : Text → Command → List Argument → Usage
usage name command arguments = record { name = name; command = command; arguments = arguments }

abbrev pub profile : Argument
profile = argument (codes "profile") form.ProfileOption

abbrev pub source : Argument
source = argument (codes "source") form.File

abbrev pub machine : Argument
machine = argument (codes "machine") form.File

abbrev pub statement : Argument
statement = argument (codes "statement") form.File

-- the options that each command has
abbrev pub why : Argument
why = argument (codes "why") form.Why

abbrev pub progress : Argument
progress = argument (codes "progress") form.Progress

abbrev pub dialect : Argument
dialect = argument (codes "dialect") form.DialectOption

abbrev pub usages : List Usage
usages =
    usage (codes "asm") command.Asm (source ∷ argument (codes "image") form.Word ∷ [])
    ∷ usage (codes "import") command.Import
    (argument (codes "at") form.AddressOption ∷ argument (codes "parts") form.Parts ∷ [])
    ∷ usage (codes "list") command.List (source ∷ [])
    ∷ usage (codes "plain") command.Plain (source ∷ [])
    ∷ usage (codes "draft") command.Draft
    (source ∷ other (codes "entry") form.FileOrWord command.DraftOn ∷ [])
    ∷ usage (codes "run") command.Run
    (profile ∷ source ∷ machine ∷ other (codes "to") form.WordOption command.RunTo ∷ [])
    ∷ usage (codes "trace") command.Trace
    (profile ∷ source ∷ machine ∷ other (codes "to") form.WordOption command.TraceTo
    ∷ argument (codes "json") form.Json ∷ [])
    ∷ usage (codes "debug") command.Debug (profile ∷ source ∷ machine ∷ [])
    ∷ usage (codes "vectors") command.Vectors
    (argument (codes "vectors") form.VectorCount ∷ argument (codes "seed") form.SeedOption ∷ [])
    ∷ usage (codes "bound") command.Bound
    (profile ∷ source ∷ statement ∷ other (codes "tight") form.NumberOption command.Tight ∷ [])
    ∷ usage (codes "check") command.Check
    (profile ∷ source ∷ statement ∷ argument (codes "cert") form.File ∷ [])
    ∷ usage (codes "visits") command.Visits
    (profile ∷ source ∷ statement ∷ argument (codes "fiq_statement") form.File
    ∷ argument (codes "visits") form.OptionalNumber ∷ argument (codes "every") form.NumberOption
    ∷ argument (codes "fiq-source") form.FileOption ∷ argument (codes "waited") form.TicksOption ∷ [])
    ∷ usage (codes "respond") command.Respond
    (profile ∷ source ∷ statement ∷ argument (codes "label") form.Word
    ∷ argument (codes "longest") form.TicksOption ∷ argument (codes "masked") form.TicksOption
    ∷ argument (codes "fiq-statement") form.FiqStatementOption
    ∷ argument (codes "fiq-source") form.FiqSourceOption
    ∷ argument (codes "masked-by") form.FilesOption ∷ argument (codes "bursts") form.NumberOption
    ∷ argument (codes "burst-every") form.NumberOption ∷ argument (codes "every") form.NumberOption
    ∷ argument (codes "waited") form.TicksOption ∷ argument (codes "within") form.TicksOption ∷ [])
    ∷ usage (codes "explain") command.Explain
    (profile ∷ source ∷ statement ∷ argument (codes "at-most") form.TicksOption
    ∷ argument (codes "bursts") form.NumberOption ∷ argument (codes "burst-every") form.NumberOption
    ∷ argument (codes "each") form.Each ∷ argument (codes "first") form.First
    ∷ argument (codes "all") form.All ∷ argument (codes "top") form.NumberOption
    ∷ argument (codes "width") form.WidthOption
    ∷ other (codes "certificate") form.FileOption command.Verdict ∷ [])
    ∷ usage (codes "justify") command.Justify
    (profile ∷ source ∷ statement ∷ argument (codes "given") form.FileOption
    ∷ argument (codes "all") form.All ∷ [])
    ∷ usage (codes "follow") command.Follow
    (profile ∷ source ∷ statement ∷ other (codes "fiq") form.FileOption command.FollowVisits ∷ machine ∷ [])
    ∷ usage (codes "graph") command.Graph
    (profile ∷ source ∷ statement ∷ argument (codes "path") form.Path
    ∷ argument (codes "html") form.Html ∷ [])
    ∷ []

-- ## The words that clap takes

-- an argument that has to be there, in its place
abbrev pub required_rule : Text → Rule
required_rule id = record (new_rule id) { required = true }

-- an option of the argument's name
abbrev pub option_rule : Text → Rule
option_rule id = record (new_rule id) { long = Some id }

-- the greatest number of 32 bits
abbrev pub most_number : ℕ
most_number = 4294967295

-- an argument's value is a whole number, named so in the usage
abbrev pub numbered : Rule → Rule
numbered rule = record rule { value_names = 1; parser = Some (parser.Signed (pos 0) (pos most_number)) }

-- an argument's value is a number of ticks, of at most 2^63 - 1
abbrev pub in_ticks : Rule → Rule
in_ticks rule = record rule { value_names = 1; parser = Some (parser.Unsigned 0 9223372036854775807) }

-- an argument's value is the number of a column, from 80 to 250
abbrev pub in_columns : Rule → Rule
in_columns rule = record rule { value_names = 1; parser = Some (parser.Signed (pos 80) (pos 250)) }

-- an argument's value is how many vectors are wanted
abbrev pub counted : Rule → Rule
counted rule = record rule { value_names = 1; parser = Some (parser.Signed (pos 1) (pos 1000000)) }

-- an argument takes one word or more, of which none is empty; options may stand between them
abbrev pub at_least_one : ValueRange
at_least_one = record { start_inclusive = 1; end_inclusive = usize_max }

abbrev pub in_words : Rule → Rule
in_words rule =
    record rule { value_names = 1; range = Some at_least_one; parser = Some parser.NonEmptyString }

abbrev pub rule_by : Form → Text → Rule
rule_by form.File id = required_rule id
rule_by form.Word id = required_rule id
rule_by form.FileOrWord id = required_rule id
rule_by form.OptionalNumber id = numbered (new_rule id)
rule_by form.ProfileOption id = record (option_rule id) { value_names = 1 }
rule_by form.FileOption id = record (option_rule id) { value_names = 1 }
rule_by form.FiqStatementOption id = record (option_rule id) { value_names = 1 }
rule_by form.FiqSourceOption id = record (option_rule id) { value_names = 1 }
rule_by form.FilesOption id = record (option_rule id) { value_names = 1; action = Some Append }
rule_by form.WordOption id = record (option_rule id) { value_names = 1 }
rule_by form.DialectOption id = record (option_rule id) { value_names = 1 }
rule_by form.Parts id = in_words (required_rule id)
rule_by form.AddressOption id = record (option_rule id) { value_names = 1 }
rule_by form.VectorCount id = counted (required_rule id)
rule_by form.NumberOption id = numbered (option_rule id)
rule_by form.SeedOption id = numbered (record (option_rule id) { required = true })
rule_by form.TicksOption id = in_ticks (option_rule id)
rule_by form.WidthOption id = in_columns (option_rule id)
rule_by form.Why id = record (option_rule id) { action = Some SetTrue }
rule_by form.Progress id = record (option_rule id) { action = Some SetTrue }
rule_by form.Each id = record (option_rule id) { action = Some SetTrue }
rule_by form.First id = record (option_rule id) { action = Some SetTrue }
rule_by form.All id = record (option_rule id) { action = Some SetTrue }
rule_by form.Path id = record (option_rule id) { action = Some SetTrue }
rule_by form.Html id = record (option_rule id) { action = Some SetTrue }
rule_by form.Json id = record (option_rule id) { action = Some SetTrue }

abbrev pub rule_as : Argument → Rule
rule_as a = rule_by a.form a.id

abbrev pub with_arguments : App → List Argument → App
with_arguments app arguments = fold (λ (a : App) argument. with_rule a (rule_as argument)) app arguments

abbrev pub app_in : Usage → App
app_in u =
    with_rule
    (with_rule (with_rule (with_arguments (new_app u.name) u.arguments) (rule_as why)) (rule_as progress))
    (rule_as dialect)

-- a command with these subcommands
abbrev pub with_commands : App → List Usage → App
with_commands app us = fold (λ (a : App) u. with_subcommand a (app_in u).top) app us

abbrev pub arcwcet_top : App
arcwcet_top =
    on_top (λ s. record s { subcommand_required = true; has_version = true }) (new_app (codes "arcwcet"))

-- the program's command with its subcommands
abbrev pub arcwcet_command : App
arcwcet_command = with_commands arcwcet_top usages

-- ## What is asked for

-- a command; whether to print what shows the reason of a refusal, what is being done, the bound of each
-- destination alone, first starts, and each row of a table; whether of the files of `respond` the first
-- behind the second are FIQ's statement and its source; whether to draw the path alone, a page in place of
-- a drawing, and lines of JSON; the dialect of sources, if it is named; the names of files, but for the
-- profile's, their addresses of `import`, and its option's; a word that names no file to be read; and numbers
pub record Asked : Type 0 where
  pub command : Command
  pub why : Bool
  pub progress : Bool
  pub each : Bool
  pub first : Bool
  pub all : Bool
  pub fiq_statement : Bool
  pub fiq_source : Bool
  pub path : Bool
  pub html : Bool
  pub json : Bool
  pub dialect : Option Text
  pub profile : Option Text
  pub files : List Text
  pub places : List (Option ℕ)
  pub at : Option Text
  pub word : Text
  pub numbers : CommandNumbers

-- without an argument
abbrev pub plainly : Command → CommandNumbers → Asked
plainly command numbers =
    record {
      command = command;
      why = false;
      progress = false;
      each = false;
      first = false;
      all = false;
      fiq_statement = false;
      fiq_source = false;
      path = false;
      html = false;
      json = false;
      dialect = None;
      profile = None;
      files = [];
      places = [];
      at = None;
      word = [];
      numbers = numbers;
    }

-- the number of at most this that a text writes: decimal digits, after any plus
abbrev pub number_to : ℕ → Text → Option ℕ
number_to most text =
    if is_unsigned_in 0 most text then Some (digits_value 10 (without_leading_plus text)) else None

-- the number of 32 bits of an option or an argument, whose word is read as clap's typed getters read it
abbrev pub number_at : Text → List Row → Option ℕ
number_at id rows = option_and_then (number_to most_number) (one_of id rows)

-- the number of 64 bits of an option, of which its rule takes those of at most 2^63 - 1
abbrev pub ticks_at : Text → List Row → Option ℕ
ticks_at id rows = option_and_then (number_to 18446744073709551615) (one_of id rows)

abbrev pub numbers_in : List Row → CommandNumbers
numbers_in rows =
    record {
      edge = unwrap_or (number_at (codes "tight") rows) 0;
      visits = number_at (codes "visits") rows;
      every = number_at (codes "every") rows;
      waited = ticks_at (codes "waited") rows;
      at_most = ticks_at (codes "at-most") rows;
      bursts = number_at (codes "bursts") rows;
      burst_every = number_at (codes "burst-every") rows;
      longest = ticks_at (codes "longest") rows;
      masked = ticks_at (codes "masked") rows;
      within = ticks_at (codes "within") rows;
      top = number_at (codes "top") rows;
      width = number_at (codes "width") rows;
      vectors = number_at (codes "vectors") rows;
      seed = number_at (codes "seed") rows;
    }

abbrev pub no_numbers : CommandNumbers
no_numbers =
    record {
      edge = 0;
      visits = None;
      every = None;
      waited = None;
      at_most = None;
      bursts = None;
      burst_every = None;
      longest = None;
      masked = None;
      within = None;
      top = None;
      width = None;
      vectors = None;
      seed = None;
    }

-- whether a word names a file, where it may be a label or an address too: it has a `.` or a `/`, and these
-- have neither
abbrev pub names_file : Text → Bool
names_file word = list_any (λ byte. byte == 46 || byte == 47) word

abbrev pub with_file : Text → Asked → Asked
with_file name asked = record asked { files = asked.files ++ name ∷ [] }

-- ## What `import` reads

-- `@`
abbrev pub is_at_sign : ℕ → Bool
is_at_sign byte = byte == 64

-- a word with one is no name alone
abbrev pub has_at_sign : Text → Bool
has_at_sign word = list_any is_at_sign word

-- the address in a word: the number behind its first `@`
abbrev pub place_in : Text → Option ℕ
place_in word = read_number (after_first is_at_sign word)

-- the name of the file in it: what is in front of that; or the word, where it has no address
abbrev pub name_in : Text → Text
name_in word = if is_none (place_in word) then word else before_first is_at_sign word

-- the same where an option says the address, and the word is a name
abbrev pub place_at : Option Text → Text → Option ℕ
place_at None word = place_in word
place_at (Some number) word = read_number number

abbrev pub name_at : Option Text → Text → Text
name_at None word = name_in word
name_at (Some number) word = word

abbrev pub with_part : Text → Asked → Asked
with_part word asked =
    record asked {
      files = asked.files ++ name_at asked.at word ∷ [];
      places = asked.places ++ place_at asked.at word ∷ [];
    }

-- one more of the words of which the last names the image, so that the one before it names a file; no word is
-- empty
abbrev pub with_word_after : Text → Text → Asked → Asked
with_word_after [] word asked = record asked { word = word }
with_word_after (byte ∷ rest) word asked = record (with_part (byte ∷ rest) asked) { word = word }

-- each file has an address; where an option says it there is one file
abbrev pub are_placed : Option Text → List (Option ℕ) → Bool
are_placed at [] = false
are_placed at (place ∷ []) = is_some place
are_placed at (place ∷ next ∷ rest) = is_none at && list_all is_some (place ∷ next ∷ rest)

-- there is one file, and neither its word nor an option says an address
abbrev pub is_unplaced : Option Text → List (Option ℕ) → Bool
is_unplaced at [] = false
is_unplaced at (place ∷ []) = is_none place && is_none at
is_unplaced at (place ∷ next ∷ rest) = false

-- ## With the values of arguments

-- with the value of an argument of a form too; numbers are read by their names
abbrev pub with_value_by : Form → Text → Asked → Asked
with_value_by form.File name asked = with_file name asked
with_value_by form.FileOption name asked = with_file name asked
with_value_by form.FiqStatementOption name asked = with_file name (record asked { fiq_statement = true })
with_value_by form.FiqSourceOption name asked = with_file name (record asked { fiq_source = true })
with_value_by form.FilesOption name asked = with_file name asked
with_value_by form.Word word asked = record asked { word = word }
with_value_by form.WordOption word asked = record asked { word = word }
with_value_by form.FileOrWord value asked =
    if names_file value then with_file value asked else record asked { word = value }
with_value_by form.Parts word asked = with_word_after asked.word word asked
with_value_by form.AddressOption number asked = record asked { at = Some number }
with_value_by form.ProfileOption name asked = record asked { profile = Some name }
with_value_by form.DialectOption name asked = record asked { dialect = Some name }
with_value_by form.Why value asked = record asked { why = bytes_eq value (codes "true") }
with_value_by form.Progress value asked = record asked { progress = bytes_eq value (codes "true") }
with_value_by form.Each value asked = record asked { each = bytes_eq value (codes "true") }
with_value_by form.First value asked = record asked { first = bytes_eq value (codes "true") }
with_value_by form.All value asked = record asked { all = bytes_eq value (codes "true") }
with_value_by form.Path value asked = record asked { path = bytes_eq value (codes "true") }
with_value_by form.Html value asked = record asked { html = bytes_eq value (codes "true") }
with_value_by form.Json value asked = record asked { json = bytes_eq value (codes "true") }
with_value_by form.OptionalNumber value asked = asked
with_value_by form.VectorCount value asked = asked
with_value_by form.NumberOption value asked = asked
with_value_by form.SeedOption value asked = asked
with_value_by form.TicksOption value asked = asked
with_value_by form.WidthOption value asked = asked

-- whether the value is a word where it might name a file
abbrev pub is_word : Form → Text → Bool
is_word form.FileOrWord value = not (names_file value)
is_word f value = false

-- what is asked for where an argument has this value
abbrev pub command_by : Argument → Text → Command → Command
command_by a value command = if is_word a.form value then command else unwrap_or a.instead command

abbrev pub with_value : Argument → Text → Asked → Asked
with_value a value asked =
    with_value_by a.form value (record asked { command = command_by a value asked.command })

-- with each value of an argument, in their order; none where it is not given
abbrev pub with_argument : List Row → Asked → Argument → Asked
with_argument rows asked a =
    fold (λ (asked : Asked) value. with_value a value asked) asked (unwrap_or (all_of a.id rows) [])

-- with those of a command's arguments, in their order
abbrev pub asked_as : Usage → List Row → Asked
asked_as u rows =
    with_argument rows
    (with_argument rows
    (with_argument rows (fold (with_argument rows) (plainly u.command (numbers_in rows)) u.arguments) why)
    progress)
    dialect

-- one of two numbers is given, and the other not
abbrev pub is_one : Option ℕ → Option ℕ → Bool
is_one first second = if is_none first then not (is_none second) else is_none second

-- how often FIQ comes is given once, and for how long it may have waited beside a period alone
abbrev pub is_rate : CommandNumbers → Bool
is_rate n = if not (is_one n.visits n.every) then false else (is_none n.visits || is_none n.waited)

-- FIQ's statement has a period, and no bursts beside it; and without it nothing else of FIQ is given
abbrev pub are_fiq_options : Asked → Bool
are_fiq_options asked =
    if asked.fiq_statement
    then not (is_none asked.numbers.every)
    && (is_none asked.numbers.bursts && is_none asked.numbers.burst_every)
    else not asked.fiq_source && (is_none asked.numbers.every && is_none asked.numbers.waited)

-- the files of `import` have addresses, or the one file is to say them; its name has no `@`
abbrev pub are_parts : Asked → Bool
are_parts asked =
    are_placed asked.at asked.places
    || (is_unplaced asked.at asked.places && not (list_any has_at_sign asked.files))

-- the image of `import` is written over none of its files
abbrev pub is_import : Asked → Bool
is_import asked = not (list_any (λ name. bytes_eq name asked.word) asked.files) && are_parts asked

-- `asm` and `import` write no image over a file that they read, the latter has an address for each or is to
-- find those of one,
-- `visits` has either a number of visits or a period,
-- `respond` has all or nothing of FIQ, and beside the certificate of a verdict neither a number nor `--each`
-- nor `--first` nor `--all` is given, which would have no effect
abbrev pub is_allowed_of : Command → Asked → Bool
is_allowed_of command.Asm asked = not (list_any (λ name. bytes_eq name asked.word) asked.files)
is_allowed_of command.Import asked = is_import asked
is_allowed_of command.Visits asked = is_rate asked.numbers
is_allowed_of command.Respond asked = are_fiq_options asked
is_allowed_of command.Verdict asked =
    not asked.each
    && (not asked.first
    && (not asked.all
    && (is_none asked.numbers.top
    && (is_none asked.numbers.width
    && (is_none asked.numbers.at_most
    && (is_none asked.numbers.bursts && is_none asked.numbers.burst_every))))))
is_allowed_of c asked = true

-- a dialect that is named is known
abbrev pub is_known : Option Text → Bool
is_known None = true
is_known (Some name) = bytes_eq name (codes "objasm")

abbrev pub is_allowed : Asked → Bool
is_allowed asked = is_known asked.dialect && is_allowed_of asked.command asked

abbrev pub allowed : Asked → Option Asked
allowed asked = if is_allowed asked then Some asked else None

-- by a command's name and its values
abbrev pub asked_by : Text × List Row → Option Asked
asked_by p =
    option_and_then (λ u. allowed (asked_as u p.1)) (find (λ u. bytes_eq p.0 u.name) usages)

-- only where there is no fault
abbrev pub unless_refused : Kinds → Option Asked → Option Asked
unless_refused [] asked = asked
unless_refused (k ∷ ks) asked = None

-- `--version` or `-V`, as the only word after the program's name
abbrev pub asks_version : List Text → Bool
asks_version (program ∷ word ∷ []) = bytes_eq word (codes "--version") || bytes_eq word (codes "-V")
asks_version words = false

-- what the words ask for: nothing where clap refuses them
unfoldable pub asked : List Text → Option Asked
asked words =
    if asks_version words then Some (plainly command.Version no_numbers)
    else unless_refused (fault_of arcwcet_command words)
    (option_and_then asked_by (subcommand_of arcwcet_command words))

-- the same of the program's words
abbrev pub asked_in : List (String Global) → Option Asked
asked_in words = asked (map (λ s. string_bytes s) words)
