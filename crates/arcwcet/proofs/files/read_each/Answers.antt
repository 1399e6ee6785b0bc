use Rattle.std.proofs.Common.{◌+◌, ◌<◌, ◌∙◌, ℕ, ap, arith, vec_len}
use Rattle.std.specs.Prelude.{is_ok, vec_capacity}
use Rattle.arcwcet.proofs.FileLemmas.{bytes_kept, counted, ends, goes_on, pushed}
use Rattle.arcwcet.proofs.files.read_each.Goals as goal

pub loop-name-preserved : goal.loop-name-preserved
loop-name-preserved g c =
    let l = c.loop-name in
    let file = c.in_ok-bytes.bytes in
    let room : vec_len l.files < vec_capacity l.files = omega (arith, l.invariant.count, l.invariant.room, c.loop-name-test.true) in
    let ok = c.push.ensures.succeeds room in
    record {
      so_far = goes_on g.S.Store.read_gives c.args.names.now c.args.store.now l.name-index (bytes_kept l.files.items) l.store l.invariant.so_far _ c.loop-name-test.true file.items c.read_named.new.store c.in_ok-bytes.ensures.read
          (bytes_kept c.push.new.self.items) (pushed (is_ok c.push.result) l.files.items c.push.new.self.items file c.push.ensures.items ok);
      count = counted (is_ok c.push.result) (vec_len l.files) (vec_len c.push.new.self) c.push.ensures.len ok ∙ ap (λ (n : ℕ). n + 1) l.invariant.count;
      room = omega (arith, l.invariant.room, c.push.ensures.capacity);
    }

pub returns-clause-read : goal.returns-clause-read
returns-clause-read g c =
    ends g.S.Store.read_gives c.args.names.now c.args.store.now c.loop-name.name-index (bytes_kept c.loop-name.files.items) c.loop-name.store c.loop-name.invariant.so_far c.loop-name-test.false
