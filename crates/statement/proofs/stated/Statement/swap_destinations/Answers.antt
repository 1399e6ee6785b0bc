use Rattle.std.proofs.Common.{◌≡◌, All, ap, eqb, subst, sym, ◌∙◌}
use Rattle.std.specs.Map.{set_value}
use Rattle.std.specs.Option.{option_copied_mut}
use Rattle.statement.specs.Stated.{IsTarget, going_to, with_destinations}
use Rattle.statement.specs.StatementParts.{IsStored, stated_of}
use Rattle.statement.proofs.SwapLemmas.{going_is, going_none, going_small}
use Rattle.statement.proofs.stated.Statement.swap_destinations.Goals as goal
use Rattle.statement.proofs.stated.Statement.swap_destinations.Goals.{in-Some, in-None}

pub invariant_of-self : goal.invariant_of-self
invariant_of-self c =
    let a = c.args.address in
    let to = c.args.to.now.items in
    let old = c.self.invariant in
    let es = c.self.inside.targets.entries in
    let small = going_small to a c.requires es old.stated.destinations in
    elim c.match-get_mut.branch [
      | in-Some w ↦
          let there = sym c.get_mut.ensures.value ∙ ap option_copied_mut w.in-Some.is in
          let target = w.in-Some.target.now in
          let new = c.get_mut.follows.lender w.swap_to.new.self in
          let is : new.entries ≡ going_to to a es =
          (c.get_mut.follows.holds w.swap_to.new.self).0 ∙ ap (set_value (eqb a) es) w.swap_to.ensures.value ∙ going_is to a es target there in
          subst IsStored (sym w.self-inside-is) (record {
            stated = record {
              entry_small = old.stated.entry_small;
              within = old.stated.within;
              few = old.stated.few;
              destinations = subst (All (λ t. IsTarget t.1)) (sym is) small;
              rules_within = old.stated.rules_within;
              rules_disjoint = old.stated.rules_disjoint;
              cycles = old.stated.cycles;
            };
            indexed = old.indexed;
          })
      | in-None w ↦
          let same = w.self-inside-is ∙ ap (λ ts. record c.self.inside { targets = ts }) c.get_mut.follows.holds-at-none in
          subst IsStored (sym same) old
    ]

pub returns-clause-value : goal.returns-clause-value
returns-clause-value c =
    let a = c.args.address in
    let to = c.args.to.now.items in
    let es = c.self.inside.targets.entries in
    elim c.match-get_mut.branch [
      | in-Some w ↦
          let there = sym c.get_mut.ensures.value ∙ ap option_copied_mut w.in-Some.is in
          let target = w.in-Some.target.now in
          let new = c.get_mut.follows.lender w.swap_to.new.self in
          let is : new.entries ≡ going_to to a es =
          (c.get_mut.follows.holds w.swap_to.new.self).0 ∙ ap (set_value (eqb a) es) w.swap_to.ensures.value ∙ going_is to a es target there in
          ap stated_of w.self-inside-is
          ∙ ap (λ ts. record (stated_of c.self.inside) { targets = ts }) is
          ∙ ap (λ st. with_destinations st a to) c.self.view_is
      | in-None w ↦
          let same = w.self-inside-is ∙ ap (λ ts. record c.self.inside { targets = ts }) c.get_mut.follows.holds-at-none in
          let none = sym c.get_mut.ensures.value ∙ ap option_copied_mut w.in-None.is in
          ap stated_of same
          ∙ ap (λ ts. record (stated_of c.self.inside) { targets = ts }) (going_none to a es none)
          ∙ ap (λ st. with_destinations st a to) c.self.view_is
    ]
