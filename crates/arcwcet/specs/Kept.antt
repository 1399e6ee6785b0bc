-- The bytes of the files that a command read, kept and lent.
use Rattle.std.specs.Prelude.{map, option_map}
use Rattle.std.specs.List.{cons_option}
use Rattle.arcwcet.specs.Files.{Inputs, Texts, inputs}
use Rattle.arcwcet.specs.declared.files.Inputs.{Inputs as Lent}
use Rattle.arcwcet.specs.declared.files.ReadFiles.{ReadFiles}
use Rattle.sources.specs.File.{file_of}
use Rattle.sources.specs.declared.file.Dialect.{Dialect}

-- in the order in which they were read
abbrev pub kept_of : ReadFiles → Texts
kept_of f = cons_option (option_map (λ v. v.items) f.profile) (map (λ v. v.items) f.others.items)

abbrev pub inputs_kept : Dialect → ReadFiles → Inputs
inputs_kept dialect f =
    inputs dialect (option_map (λ v. v.items) f.profile) (map (λ v. v.items) f.others.items)

abbrev pub inputs_lent : Lent → Inputs
inputs_lent t =
    record {
      profile = option_map (λ f. f.now) t.profile;
      source = file_of t.source;
      second = t.second.now;
      third = t.third.now;
      fourth = t.fourth.now;
      fiq_source = file_of t.fiq_source;
      rest = map (λ v. v.items) t.rest.now;
    }
