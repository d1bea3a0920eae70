use Rattle.std.proofs.Common.{◌≡◌, ℕ, ◌+◌, ◌≤◌, length, map, subst, sym, ap, List, [], ◌∷◌, ◌++◌, arith, Ok, Err, None}
use Rattle.std.proofs.lemmas.List.{length-map}
use Rattle.vx_copies.specs.Disks.{disk_seen}
use Rattle.vx_copies.specs.Chain.{Copy, copy_of, IsChained, IsSound}
use Rattle.vx_confdb.specs.Prepare.{Tells}
use Rattle.vx_confdb.specs.Groups.{members, IsAlive}
use Rattle.vx_confdb.specs.Add.{IsTaken, TakenBy, AddGives}
use Rattle.vx_copies.specs.Written.{IsDone}
use Rattle.vx_confdb.specs.Enlisted.{AddWrites}
use Rattle.vx_confdb.specs.declared.joining.Prepared.TheVariants.{Done}
use Rattle.vx_confdb.proofs.Enlistment.{is_enlisted, is_added, not_cut}
use Rattle.vx_confdb.specs.Texts.{text_of}
use Rattle.vx_confdb.specs.declared.group.Group.{Group}
use Rattle.vx_confdb.proofs.NoOffers.{none_all}
use Rattle.vx_confdb.proofs.Additions.{mid_members, joined_is, chain_by, whole_by, taken_is, lost_taken, one_longer, alive_by, ok_not_err, held_length}
use Rattle.vx_confdb.proofs.group.Group.add.Goals as goal

pub write_joined-requires-clause-alive : goal.write_joined-requires-clause-alive
write_joined-requires-clause-alive g c κs within =
    let alive : IsAlive g.P.Piece.seen c.args.self.now = alive_by g.P.Piece.seen c.args.self.now c.in_default.is c.requires.group in
    let is = mid_members g.P.Piece.seen c.args.self.now.disks.items c.reserve.new.self.items c.put_last.new.disks.items c.join_one-joined.new.disk c.reserve.ensures.items c.put_last.ensures.put in
    let none = (none_all c.args.self.now.name (disk_seen g.P.Piece.seen c.args.disk ∷ []) (disk_seen g.P.Piece.seen c.join_one-joined.new.disk ∷ []) (c.join_one-joined.ensures.prepares, tt) (c.requires.none, tt)).0 in
    let few : length c.put_last.new.disks.items ≤ 32 = omega (arith, one_longer c.args.self.now.disks.items c.reserve.new.self.items c.put_last.new.disks.items c.join_one-joined.new.disk c.reserve.ensures.items c.put_last.ensures.put, c.requires.room) in
    joined_is g.P.Piece.seen c.join_one-joined.result _ (members g.P.Piece.seen c.args.self.now) (disk_seen g.P.Piece.seen c.join_one-joined.new.disk) is few alive.ready alive.headed alive.below none (rw c.join_one-joined.ensures.prepares.slot c.requires.fresh.slot) c.join_one-joined.ensures.ends

pub returns-in-Ok-write_joined-clause-ends : goal.returns-in-Ok-write_joined-clause-ends
returns-in-Ok-write_joined-clause-ends g c =
    let alive : IsAlive g.P.Piece.seen c.args.self.now = alive_by g.P.Piece.seen c.args.self.now c.in_default.is c.requires.group in
    let is = mid_members g.P.Piece.seen c.args.self.now.disks.items c.reserve.new.self.items c.put_last.new.disks.items c.join_one-joined.new.disk c.reserve.ensures.items c.put_last.ensures.put in
    let none = (none_all c.args.self.now.name (disk_seen g.P.Piece.seen c.args.disk ∷ []) (disk_seen g.P.Piece.seen c.join_one-joined.new.disk ∷ []) (c.join_one-joined.ensures.prepares, tt) (c.requires.none, tt)).0 in
    let mid : Group g.row.P.Denot = record { name = c.args.self.now.name; disks = c.put_last.new.disks; sequence = c.args.self.now.sequence; text = c.args.self.now.text; lost = c.args.self.now.lost } in
    let long : c.len-carriers.result ≡ length (members g.P.Piece.seen c.args.self.now) = omega (arith, length-map c.args.self.now.disks.items (disk_seen g.P.Piece.seen), c.args.self.now.disks.ok.0, c.reserve.ensures.len, c.len-carriers.ensures) in
    let size : c.len-carriers.result ≡ length c.args.self.now.disks.items = omega (arith, c.args.self.now.disks.ok.0, c.reserve.ensures.len, c.len-carriers.ensures) in
    let same = ap (map (disk_seen g.P.Piece.seen)) in
    let chain : (missing : ℕ) (os : List Copy) → Tells (disk_seen g.P.Piece.seen c.args.disk) → IsSound c.args.self.now.name missing os c.args.self.now.sequence (length c.args.self.now.disks.items) (members g.P.Piece.seen c.args.self.now) → IsChained missing (os ++ map (copy_of c.args.self.now.name) (members g.P.Piece.seen c.write_joined.new.self)) = λ missing os tells sound. chain_by c.join_one-joined.result c.args.self.now.name missing os c.args.self.now.sequence c.write_joined.new.self.sequence c.len-carriers.result (members g.P.Piece.seen c.args.self.now) (members g.P.Piece.seen mid) (members g.P.Piece.seen c.write_joined.new.self) (disk_seen g.P.Piece.seen c.args.disk) (disk_seen g.P.Piece.seen c.join_one-joined.new.disk) is long c.join_one-joined.ensures.prepares none c.join_one-joined.ensures.ends
    (λ cut. same (c.write_joined.ensures.stays cut)) (c.write_joined.ensures.sound missing os) tells (rw size sound) in
    let committed = c.write_joined.ensures.written.committed in
    let taken : IsTaken g.P.Piece.seen (text_of c.in-Ok.text) c.args.disk c.args.self.now c.write_joined.new.self =
    taken_is g.P.Piece.seen c.join_one-joined.result (text_of c.in-Ok.text) c.args.disk c.join_one-joined.new.disk c.args.self.now c.write_joined.new.self (members g.P.Piece.seen mid) is c.join_one-joined.ensures.prepares none c.join_one-joined.ensures.ends (λ cut. same (c.write_joined.ensures.stays cut)) committed.name committed.goes committed.old_or_new committed.order c.len-carriers.result size c.write_joined.ensures.written.lead committed.few chain in
    let longer : length c.write_joined.new.self.disks.items ≡ length c.put_last.new.disks.items = held_length g.P.Piece.seen _ c.put_last.new.disks.items c.write_joined.new.self.disks.items committed.goes in
    let whole : (missing : ℕ) (os : List Copy) → Tells (disk_seen g.P.Piece.seen c.args.disk) → IsSound c.args.self.now.name missing os c.args.self.now.sequence (length c.args.self.now.disks.items) (members g.P.Piece.seen c.args.self.now) → IsSound c.args.self.now.name missing os c.write_joined.new.self.sequence (length c.write_joined.new.self.disks.items) (members g.P.Piece.seen c.write_joined.new.self) = λ missing os tells sound.
    whole_by c.join_one-joined.result c.args.self.now.name missing os c.args.self.now.sequence c.write_joined.new.self.sequence c.len-carriers.result (length c.write_joined.new.self.disks.items) (members g.P.Piece.seen c.args.self.now) (members g.P.Piece.seen mid) (members g.P.Piece.seen c.write_joined.new.self) (disk_seen g.P.Piece.seen c.args.disk) (disk_seen g.P.Piece.seen c.join_one-joined.new.disk) is long c.join_one-joined.ensures.prepares none c.join_one-joined.ensures.ends
    (λ cut. ok_not_err c.write_joined.result c.in-Ok-write_joined.field-0 _ c.in-Ok-write_joined.is (c.write_joined.ensures.cut cut)) (λ x. rw longer (c.in-Ok-write_joined.ensures.all missing os x)) tells (rw size sound) in
    let ends : TakenBy g.P.Piece.seen (Ok c.in-Ok-write_joined.field-0) (text_of c.in-Ok.text) c.args.disk c.args.self.now c.write_joined.new.self = (taken, c.in-Ok-write_joined.ensures.written.ends, whole) in
    rw c.in-Ok.ensures at ends

pub returns-in-Err-clause-ends : goal.returns-in-Err-clause-ends
returns-in-Err-clause-ends g c =
    let alive : IsAlive g.P.Piece.seen c.args.self.now = alive_by g.P.Piece.seen c.args.self.now c.in_default.is c.requires.group in
    let is = mid_members g.P.Piece.seen c.args.self.now.disks.items c.reserve.new.self.items c.put_last.new.disks.items c.join_one-joined.new.disk c.reserve.ensures.items c.put_last.ensures.put in
    let none = (none_all c.args.self.now.name (disk_seen g.P.Piece.seen c.args.disk ∷ []) (disk_seen g.P.Piece.seen c.join_one-joined.new.disk ∷ []) (c.join_one-joined.ensures.prepares, tt) (c.requires.none, tt)).0 in
    let mid : Group g.row.P.Denot = record { name = c.args.self.now.name; disks = c.put_last.new.disks; sequence = c.args.self.now.sequence; text = c.args.self.now.text; lost = c.args.self.now.lost } in
    let long : c.len-carriers.result ≡ length (members g.P.Piece.seen c.args.self.now) = omega (arith, length-map c.args.self.now.disks.items (disk_seen g.P.Piece.seen), c.args.self.now.disks.ok.0, c.reserve.ensures.len, c.len-carriers.ensures) in
    let size : c.len-carriers.result ≡ length c.args.self.now.disks.items = omega (arith, c.args.self.now.disks.ok.0, c.reserve.ensures.len, c.len-carriers.ensures) in
    let same = ap (map (disk_seen g.P.Piece.seen)) in
    let chain : (missing : ℕ) (os : List Copy) → Tells (disk_seen g.P.Piece.seen c.args.disk) → IsSound c.args.self.now.name missing os c.args.self.now.sequence (length c.args.self.now.disks.items) (members g.P.Piece.seen c.args.self.now) → IsChained missing (os ++ map (copy_of c.args.self.now.name) (members g.P.Piece.seen c.write_joined.new.self)) = λ missing os tells sound. chain_by c.join_one-joined.result c.args.self.now.name missing os c.args.self.now.sequence c.write_joined.new.self.sequence c.len-carriers.result (members g.P.Piece.seen c.args.self.now) (members g.P.Piece.seen mid) (members g.P.Piece.seen c.write_joined.new.self) (disk_seen g.P.Piece.seen c.args.disk) (disk_seen g.P.Piece.seen c.join_one-joined.new.disk) is long c.join_one-joined.ensures.prepares none c.join_one-joined.ensures.ends
    (λ cut. same (c.write_joined.ensures.stays cut)) (c.write_joined.ensures.sound missing os) tells (rw size sound) in
    let committed = c.write_joined.ensures.written.committed in
    let taken : IsTaken g.P.Piece.seen (text_of c.in-Ok.text) c.args.disk c.args.self.now c.write_joined.new.self =
    taken_is g.P.Piece.seen c.join_one-joined.result (text_of c.in-Ok.text) c.args.disk c.join_one-joined.new.disk c.args.self.now c.write_joined.new.self (members g.P.Piece.seen mid) is c.join_one-joined.ensures.prepares none c.join_one-joined.ensures.ends (λ cut. same (c.write_joined.ensures.stays cut)) committed.name committed.goes committed.old_or_new committed.order c.len-carriers.result size c.write_joined.ensures.written.lead committed.few chain in
    let ends : AddGives g.P.Piece.seen (Err (c.in-Err.fault, None)) (text_of c.in-Ok.text) c.args.disk c.args.self.now c.write_joined.new.self =
    lost_taken g.P.Piece.seen c.in-Err.fault c.len-carriers.result (text_of c.in-Ok.text) c.args.disk c.join_one-joined.new.disk c.args.self.now mid c.write_joined.new.self is long size taken c.in-Err.ensures.written.ends in
    rw c.in-Ok.ensures at ends

pub returns-in-Ok-write_joined-clause-writes : goal.returns-in-Ok-write_joined-clause-writes
returns-in-Ok-write_joined-clause-writes g c =
    let is = mid_members g.P.Piece.seen c.args.self.now.disks.items c.reserve.new.self.items c.put_last.new.disks.items c.join_one-joined.new.disk c.reserve.ensures.items c.put_last.ensures.put in
    let size : length c.args.self.now.disks.items ≡ length (members g.P.Piece.seen c.args.self.now) = sym (length-map c.args.self.now.disks.items (disk_seen g.P.Piece.seen)) in
    let written = c.write_joined.ensures.written in
    let carriers : c.len-carriers.result ≡ length c.args.self.now.disks.items = omega (arith, c.args.self.now.disks.ok.0, c.reserve.ensures.len, c.len-carriers.ensures) in
    let joined : c.join_one-joined.result ≡ Done = not_cut c.join_one-joined.result (λ cut. ok_not_err c.write_joined.result c.in-Ok-write_joined.field-0 _ c.in-Ok-write_joined.is (c.write_joined.ensures.cut cut)) in
    let writes : AddWrites g.P.Piece.seen (Ok c.in-Ok-write_joined.field-0) (text_of c.in-Ok.text) c.args.disk c.args.self.now c.write_joined.new.self =
    (is_enlisted c.join_one-joined.result c.args.self.now.name (length c.args.self.now.disks.items) (c.args.self.now.sequence + 1) c.write_joined.new.self.sequence (text_of c.in-Ok.text) (members g.P.Piece.seen c.args.self.now) _ (members g.P.Piece.seen c.write_joined.new.self) (disk_seen g.P.Piece.seen c.args.disk) (disk_seen g.P.Piece.seen c.join_one-joined.new.disk) size is c.join_one-joined.ensures.prepares c.join_one-joined.ensures.fronts c.join_one-joined.ensures.ends (λ cut. ap (map (disk_seen g.P.Piece.seen)) (c.write_joined.ensures.stays cut)) written.committed.goes written.recorded, is_added c.join_one-joined.result c.args.self.now.name (length c.args.self.now.disks.items) (c.args.self.now.sequence + 1) c.write_joined.new.self.sequence (text_of c.in-Ok.text) (members g.P.Piece.seen c.args.self.now) _ (members g.P.Piece.seen c.write_joined.new.self) (disk_seen g.P.Piece.seen c.args.disk) (disk_seen g.P.Piece.seen c.join_one-joined.new.disk) size is c.join_one-joined.ensures.prepares c.join_one-joined.ensures.fronts c.join_one-joined.ensures.ends (λ cut. ap (map (disk_seen g.P.Piece.seen)) (c.write_joined.ensures.stays cut)) written.committed.goes written.recorded (c.join_one-joined.ensures.just joined) (subst (λ k. IsDone k c.write_joined.new.self.sequence (text_of c.in-Ok.text) (members g.P.Piece.seen c.write_joined.new.self)) carriers c.in-Ok-write_joined.ensures.written.done) c.in-Ok-write_joined.ensures.written.exact) in
    rw c.in-Ok.ensures at writes

pub returns-in-Err-clause-writes : goal.returns-in-Err-clause-writes
returns-in-Err-clause-writes g c =
    let is = mid_members g.P.Piece.seen c.args.self.now.disks.items c.reserve.new.self.items c.put_last.new.disks.items c.join_one-joined.new.disk c.reserve.ensures.items c.put_last.ensures.put in
    let size : length c.args.self.now.disks.items ≡ length (members g.P.Piece.seen c.args.self.now) = sym (length-map c.args.self.now.disks.items (disk_seen g.P.Piece.seen)) in
    let written = c.write_joined.ensures.written in
    let writes : AddWrites g.P.Piece.seen (Err (c.in-Err.fault, None)) (text_of c.in-Ok.text) c.args.disk c.args.self.now c.write_joined.new.self =
    is_enlisted c.join_one-joined.result c.args.self.now.name (length c.args.self.now.disks.items) (c.args.self.now.sequence + 1) c.write_joined.new.self.sequence (text_of c.in-Ok.text) (members g.P.Piece.seen c.args.self.now) _ (members g.P.Piece.seen c.write_joined.new.self) (disk_seen g.P.Piece.seen c.args.disk) (disk_seen g.P.Piece.seen c.join_one-joined.new.disk) size is c.join_one-joined.ensures.prepares c.join_one-joined.ensures.fronts c.join_one-joined.ensures.ends (λ cut. ap (map (disk_seen g.P.Piece.seen)) (c.write_joined.ensures.stays cut)) written.committed.goes written.recorded in
    rw c.in-Ok.ensures at writes
