use Rattle.std.proofs.Common.{◌≡◌, ◌≤◌, length, subst, sym, arith}
use Rattle.std.proofs.lemmas.List.{length-map}
use Rattle.vx_copies.specs.Disks.{disk_seen}
use Rattle.vx_copies.proofs.Records.{none_recorded}
use Rattle.vx_copies.specs.Chain.{IsSound}
use Rattle.vx_confdb.specs.Groups.{members}
use Rattle.vx_confdb.proofs.Labels.{gives_from, same_length}
use Rattle.vx_confdb.proofs.group.Group.commit.Goals as goal

pub returns-clause-ends : goal.returns-clause-ends
returns-clause-ends g c =
    let few : length (members g.P.Piece.seen c.args.self.now) ≤ c.len-carriers.result = omega (arith, length-map c.args.self.now.disks.items (disk_seen g.P.Piece.seen), c.args.self.now.disks.ok.0, c.len-carriers.ensures) in
    let same : length (members g.P.Piece.seen c.write.new.self) ≡ length (members g.P.Piece.seen c.args.self.now) = same_length _ _ _ c.write.ensures.written.committed.goes in
    gives_from g.P.Piece.seen c.write.result c.len-carriers.result c.args.text.now c.args.self.now c.write.new.self few (omega (arith, few, same)) (rw c.in-Ok.ensures at c.write.ensures.written)

pub returns-then-text-clause-recorded : goal.returns-then-text-clause-recorded
returns-then-text-clause-recorded g c = none_recorded c.args.self.now.sequence c.args.text.now _

pub returns-in-Some-clause-recorded : goal.returns-in-Some-clause-recorded
returns-in-Some-clause-recorded g c = none_recorded c.args.self.now.sequence c.args.text.now _

pub returns-in_default-of-clause-recorded : goal.returns-in_default-of-clause-recorded
returns-in_default-of-clause-recorded g c = none_recorded c.args.self.now.sequence c.args.text.now _

pub returns-clause-sound : goal.returns-clause-sound
returns-clause-sound g c = λ missing others sound.
    let size : c.len-carriers.result ≡ length c.args.self.now.disks.items = omega (arith, c.args.self.now.disks.ok.0, c.len-carriers.ensures) in
    subst (λ k. IsSound c.args.self.now.name missing others c.write.new.self.sequence k (members g.P.Piece.seen c.write.new.self)) size
    (c.write.ensures.sound missing others (subst (λ k. IsSound c.args.self.now.name missing others c.args.self.now.sequence k (members g.P.Piece.seen c.args.self.now)) (sym size) sound))
