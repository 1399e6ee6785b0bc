use Rattle.std.proofs.Common.{◌<◌, length, Some, None, sym, ap, ◌∙◌, arith}
use Rattle.std.proofs.lemmas.List.{get_or_read}
use Rattle.memc.specs.declared.pages.Entry.{Entry}
use Rattle.memc.specs.Table.{Sized}
use Rattle.memc.proofs.Inverse.{map_keeps, off_by, IsOff}
use Rattle.memc.proofs.Places.{page_within}
use Rattle.memc.proofs.pages.Pages.map.Goals as goal
use Rattle.memc.proofs.pages.Pages.map.Goals.{in-Some, in_default}

pub index_mut-requires : goal.index_mut-requires
index_mut-requires c =
    let within : c.args.logical < length c.self.inside.table.items = page_within c.self.inside.shift (length c.self.inside.table.items) c.args.logical c.self.invariant.count (rw (← ap (λ (s : Sized). s.shift) (c.self.view_is ∙ c.unmap.ensures)) at c.requires.logical) in
    omega (arith, c.self.invariant.places, c.self.inside.held.ok, c.self.invariant.physical_below c.args.logical c.in-Some.entry (sym (get_or_read c.self.inside.table.items c.args.logical c.index.result.now within c.index.ensures None) ∙ c.in-Some.is))

pub index_mut-requires-2 : goal.index_mut-requires-2
index_mut-requires-2 c =
    elim c.match-index.branch [
      | in-Some w ↦ rw w.self-inside-is (omega (arith, page_within c.self.inside.shift (length c.self.inside.table.items) c.args.logical c.self.invariant.count (rw (← ap (λ (s : Sized). s.shift) (c.self.view_is ∙ c.unmap.ensures)) at c.requires.logical), c.self.inside.table.ok))
      | in_default w ↦ rw w.self-inside-is (omega (arith, page_within c.self.inside.shift (length c.self.inside.table.items) c.args.logical c.self.invariant.count (rw (← ap (λ (s : Sized). s.shift) (c.self.view_is ∙ c.unmap.ensures)) at c.requires.logical), c.self.inside.table.ok))
    ]

pub invariant_of-self : goal.invariant_of-self
invariant_of-self c =
    let within : c.args.logical < length c.self.inside.table.items = page_within c.self.inside.shift (length c.self.inside.table.items) c.args.logical c.self.invariant.count (rw (← ap (λ (s : Sized). s.shift) (c.self.view_is ∙ c.unmap.ensures)) at c.requires.logical) in
    let e : Entry = record { physical = c.args.physical; level = c.args.level } in
    let out : IsOff c.args.physical c.self.inside.table.items = off_by c.args.physical c.self.inside.table.items c.args.self.now.paged.pages (ap (λ (s : Sized). s.paged.pages) (c.self.view_is ∙ c.unmap.ensures)) in
    elim c.match-index.branch [
      | in-Some w ↦
          rw w.self-inside-is
          (map_keeps c.self.inside.shift c.self.inside.words.items c.self.inside.table.items c.self.inside.held.items c.self.invariant e c.args.logical out c.requires.physical c.requires.level within (Some w.in-Some.entry)
          (sym (get_or_read c.self.inside.table.items c.args.logical c.index.result.now within c.index.ensures None) ∙ w.in-Some.is))
      | in_default w ↦
          rw w.self-inside-is
          (map_keeps c.self.inside.shift c.self.inside.words.items c.self.inside.table.items c.self.inside.held.items c.self.invariant e c.args.logical out c.requires.physical c.requires.level within None
          (sym (get_or_read c.self.inside.table.items c.args.logical c.index.result.now within c.index.ensures None) ∙ w.in_default.is))
    ]
