use Rattle.machine_reports.proofs.vectors.vectors_report.Goals as goal

pub returns-in-Ok : goal.returns-in-Ok
returns-in-Ok g c = record {
  printed = record { text = c.in-Ok.ensures.0; is_text = c.in-Ok.ensures.1; printed = c.in-Ok.ensures.2.0 };
  fault = tt;
  quiet = tt;
  device = λ e. cc e;
}
