-- What fails in a certificate, from what is found of it.
use Rattle.std.proofs.Common.{ℕ, List, Option, subst}
use Rattle.bus_ticks.specs.declared.profile.Profile.{Profile}
use Rattle.cert_check.specs.Failing.{verdict_of}
use Rattle.cert_check.specs.Verdict.{IsVerdict}
use Rattle.cert_check.specs.declared.failing.FailingRow.{FailingRow}
use Rattle.cert_check.proofs.YesLemmas.{yes_is_greatest}
use Rattle.explain_reports.specs.Found.{FindsRow, IsFound}
use Rattle.explain_reports.specs.Verdict.{IsExplained}
use Rattle.explain_reports.proofs.CheckLemmas.{judged}
use Rattle.sources.specs.File.{File}

pub explained : (source : File) (statement text : List ℕ) (profile : Profile) (row : Option FailingRow) → IsFound FindsRow source statement text profile row → IsExplained source statement text profile row
unfolding judged
explained source statement text profile row f = record {
  judged = judged source statement text profile (verdict_of row) (record {
    stated = f.stated;
    flow = f.flow;
    tree = f.tree;
    cert = f.cert;
    loops = f.loops;
    formed = f.formed;
    tree_of = f.tree_of;
    can_spell = f.can_spell;
    spelled = f.spelled;
    says = record {
      verdict_is = f.says.verdict_is;
      greatest = λ yes. yes_is_greatest f.flow f.tree f.cert f.formed f.tree_of.tree_is (subst (IsVerdict f.flow f.tree f.cert) yes f.says.verdict_is);
    };
  });
  fails = f.says.fails;
}
