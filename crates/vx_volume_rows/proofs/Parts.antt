-- Disks that are there whole, and those that were opened.
use Rattle.std.proofs.Common.{◌≡◌, ◌≢◌, ◌+◌, ◌≤◌, Bool, true, false, cond, List, [], ◌∷◌, ◌++◌, map, sym, ap, ◌∙◌, subst, arith}
use Rattle.std.proofs.lemmas.List.{append-nil}
use Rattle.std.proofs.lemmas.List.Sums.{sum_by-cons}
use Rattle.vx_piece.specs.Seen.{Seen}
use Rattle.vx_piece.specs.MemPiece.{mem_seen}
use Rattle.vx_piece.specs.declared.mem_piece.MemPiece.{MemPiece}
use Rattle.vx_carve.specs.Together.{covers, has, owners, AreOnce}
use Rattle.vx_copies.specs.Disks.{DiskSeen, disk_seen}
use Rattle.vx_copies.specs.declared.disk.Disk.{Disk}
use Rattle.vx_fronts.specs.Parted.{AreParted, AreSameWhole, IsFront, IsWhole}
use Rattle.vx_fronts.specs.RestLaws.{JoinedStayParted, WholeArePartedAlone}

one_once : (p : Seen) → AreOnce (p ∷ [])
one_once p device k = by (covers device k p) (sum_by-cons (has device k) p [])
  where
    by : (b : Bool) → owners device k (p ∷ []) ≡ cond b 1 0 + 0 → owners device k (p ∷ []) ≤ 1
    by true e = omega (arith, e)
    by false e = omega (arith, e)

two_parted : WholeArePartedAlone → JoinedStayParted → (h g : DiskSeen) → IsFront h → IsFront g → IsWhole h → IsWhole g → h.seen.device ≢ g.seen.device → AreParted (h ∷ g ∷ []) []
two_parted alone joined h g fh fg wh wg differs = joined (h ∷ []) [] g (record { front = fg; whole = wg; other = (differs, tt) }) (alone (h ∷ []) (fh, tt) (wh, tt) (one_once h.seen))

-- a disk on a whole device
pub record IsOnWhole (d : Disk MemPiece) (p : MemPiece) : Type 0 where
  pub piece : d.piece ≡ p
  pub sectors : d.sectors ≡ (mem_seen p).sectors
  pub start : (mem_seen p).start ≡ 0
  pub private : 2048 ≤ (mem_seen p).sectors

front_of : (d : Disk MemPiece) (p : MemPiece) → IsOnWhole d p → IsFront (disk_seen mem_seen d)
front_of d p is = subst (λ (q : MemPiece). IsFront (record (disk_seen mem_seen d) { seen = mem_seen q })) (sym is.piece) (record { start = is.start; private = is.private })

whole_of : (d : Disk MemPiece) (p : MemPiece) → IsOnWhole d p → IsWhole (disk_seen mem_seen d)
whole_of d p is = ap (λ (q : MemPiece). (mem_seen q).sectors) is.piece ∙ sym is.sectors

pub two_disks : WholeArePartedAlone → JoinedStayParted → (ds : List (Disk MemPiece)) (d e : Disk MemPiece) (p q : MemPiece) → ds ≡ d ∷ e ∷ [] → IsOnWhole d p → IsOnWhole e q → (mem_seen p).device ≢ (mem_seen q).device → AreParted (map (disk_seen mem_seen) ds) []
two_disks alone joined ds d e p q is a b differs =
    subst (λ xs. AreParted (map (disk_seen mem_seen) xs) []) (sym is)
    (two_parted alone joined (disk_seen mem_seen d) (disk_seen mem_seen e) (front_of d p a) (front_of e q b) (whole_of d p a) (whole_of e q b)
    (λ f. differs (sym (ap (λ (x : MemPiece). (mem_seen x).device) a.piece) ∙ f ∙ ap (λ (x : MemPiece). (mem_seen x).device) b.piece)))

pub none_behind : (hs : List DiskSeen) (ps : List MemPiece) → ps ≡ [] → AreParted hs [] → AreParted hs (map mem_seen ps ++ [])
none_behind hs ps e parted = subst (λ xs. AreParted hs (map mem_seen xs ++ [])) (sym e) parted

pub opened_parted : (hs bs : List DiskSeen) (old : List Seen) (new ps : List MemPiece) → ps ≡ new → AreSameWhole [] hs bs old (map mem_seen new) → AreParted bs (map mem_seen ps)
opened_parted hs bs old new ps e same = subst (λ xs. AreParted bs (map mem_seen xs)) (sym e) (subst (AreParted bs) (append-nil (map mem_seen new)) same.parted)
