use Rattle.std.proofs.Common.{◌≡◌, ◌<◌, ◌∙◌, true, not, length, get_or, sym, ap, Err, arith, rules}
use Rattle.arm2_decode.specs.declared.names.Register.TheVariants.{R0}
use Rattle.arm2_decode.specs.Transfers.{is_listed}
use Rattle.arm2_transfer.specs.declared.words.TransferFault.{TransferFault}
use Rattle.arm2_transfer.proofs.Verdict.{verdict-ok, verdict-abort, verdict-unsupported, fit_push}
use Rattle.arm2_transfer.proofs.words.locate_block.Goals as goal
use Rattle.arm2_transfer.proofs.words.locate_block.Goals.{in-Ok, in-Err-UnsupportedWrite}

pub returns-in-Err-DataAbort-clause-verdict : goal.returns-in-Err-DataAbort-clause-verdict
returns-in-Err-DataAbort-clause-verdict c =
    let l = c.loop-register in
    let all = c.all_registers-register-items.result in
    let listed : is_listed c.args.transfer.list (get_or all l.register-index R0) ≡ true = search rules in
    let inside : l.register-index < length all = search rules in
    sym (verdict-abort c.args.memc.now c.args.user (not c.args.transfer.load) l.unsupported c.args.lowest c.word_address.result c.args.transfer.list l.word all l.register-index R0 l.moves.items inside listed c.word_address.ensures.address (sym c.locate_word.ensures.met ∙ c.in-Err-DataAbort.is ∙ ap (λ (t : TransferFault). Err t) c.in-Err-DataAbort.field-0-is)
    ∙ l.invariant.rest)

pub loop-register-preserved : goal.loop-register-preserved
loop-register-preserved c =
    let l = c.loop-register in
    let all = c.all_registers-register-items.result in
    let listed : is_listed c.args.transfer.list (get_or all l.register-index R0) ≡ true = search rules in
    let inside : l.register-index < length all = search rules in
    elim c.match-locate_word.branch [
      | in-Ok w ↦ rw (w.moves-is, w.unsupported-is) (record {
        few = omega (arith, l.invariant.few, w.push.ensures.len);
        word = omega (arith, l.invariant.word);
        fit = fit_push c.args.memc.now.shift l.moves.items w.push.new.self.items _ w.in-Ok.spot w.in-Ok.ensures.fitted l.invariant.fit w.push.ensures.items;
        rest =
            verdict-ok c.args.memc.now c.args.user (not c.args.transfer.load) l.unsupported c.args.lowest c.word_address.result c.args.transfer.list l.word all l.register-index R0 l.moves.items w.push.new.self.items w.in-Ok.spot inside listed c.word_address.ensures.address (sym c.locate_word.ensures.met ∙ w.in-Ok.is) w.push.ensures.items
            ∙ l.invariant.rest;
      })
      | in-Err-UnsupportedWrite w ↦ rw (w.moves-is, w.unsupported-is) (record {
        few = omega (arith, l.invariant.few);
        word = omega (arith, l.invariant.word);
        fit = l.invariant.fit;
        rest =
            verdict-unsupported c.args.memc.now c.args.user (not c.args.transfer.load) l.unsupported c.args.lowest c.word_address.result c.args.transfer.list l.word all l.register-index R0 l.moves.items inside listed c.word_address.ensures.address (sym c.locate_word.ensures.met ∙ w.in-Err-UnsupportedWrite.is ∙ ap (λ (t : TransferFault). Err t) w.in-Err-UnsupportedWrite.field-0-is)
            ∙ l.invariant.rest;
      })
    ]
