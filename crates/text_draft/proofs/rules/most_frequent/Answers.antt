use Rattle.std.proofs.Common.{refl}
use Rattle.text_draft.proofs.TallyLaws.{leads_all, leads_first}
use Rattle.text_draft.proofs.rules.most_frequent.Goals as goal

pub returns : goal.returns
returns c = λ accesses are.
    leads_all accesses c.args.register c.more_frequent.result
    (c.more_frequent.ensures accesses are 6 refl
    (c.more_frequent-best-6.ensures accesses are 5 refl
    (c.more_frequent-best-5.ensures accesses are 4 refl
    (c.more_frequent-best-4.ensures accesses are 3 refl
    (c.more_frequent-best-3.ensures accesses are 2 refl
    (c.more_frequent-best-2.ensures accesses are 1 refl
    (c.more_frequent-best.ensures accesses are 0 refl (leads_first accesses c.args.register))))))))
