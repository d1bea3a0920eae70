-- What is left over last is the log.
use Rattle.std.proofs.Common.{rules, ◌≡◌, ◌∙◌, ◌++◌, [], ◌∷◌, sym, subst, map}
use Rattle.std.proofs.lemmas.List.{same_from_push}
use Rattle.vx_group_start.proofs.MadeLogs.{not_copies, one_store, taken_still}
use Rattle.vx_group_start.proofs.making.take_log.Goals as goal

pub unreachable-requires : goal.unreachable-requires
unreachable-requires g c =
    let r = c.unwrap-log.result in
    let items : c.args.public.now.left.items ≡ c.pop.new.self.items ++ r ∷ [] = search rules in
    let same = same_from_push c.requires.before c.pop.new.self.items c.requires.last r (sym c.requires.left_is ∙ items) in
    not_copies c.requires.store _ c.requires.last r same.1 c.requires.log_is c.in-Copies.is

pub returns-clause-taken : goal.returns-clause-taken
returns-clause-taken g c before last store left log =
    let r = c.unwrap-log.result in
    let items : c.args.public.now.left.items ≡ c.pop.new.self.items ++ r ∷ [] = search rules in
    let same = same_from_push before c.pop.new.self.items last r (sym left ∙ items) in
    (one_store store c.in-Store.store last r same.1 log c.in-Store.is, sym same.0)

pub returns-clause-still : goal.returns-clause-still
returns-clause-still g c =
    let r = c.unwrap-log.result in
    let items : c.args.public.now.left.items ≡ c.pop.new.self.items ++ r ∷ [] = search rules in
    let same = same_from_push c.requires.before c.pop.new.self.items c.requires.last r (sym c.requires.left_is ∙ items) in
    taken_still g.P.Piece.seen c.args.public.now.left.items c.pop.new.self.items r c.in-Store.store c.in-Store.is (subst (λ l. l.regions.items ≡ []) same.1 c.requires.regions) (map g.P.Piece.seen c.args.public.now.pool.items.items) items
