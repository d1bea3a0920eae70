-- A volume is taken out of the running ones, and put back: all pieces of the group are together what they were.
use Rattle.std.proofs.Common.{◌≡◌, ◌∙◌, Bool, true, false, cond, List, [], ◌∷◌, ◌++◌, Option, Some, None, refl, sym, ap, subst, append_assoc}
use Rattle.std.specs.BTreeMap.{BTreeMap, get}
use Rattle.std.specs.Cmp.Lexicographic.{slice_cmp}
use Rattle.std.specs.List.{flat_map}
use Rattle.std.specs.Map.{lookup, remove_entry}
use Rattle.std.specs.Ordering.{nat_cmp, is_eq}
use Rattle.std.proofs.lemmas.Grind.{flat_map-append}
use Rattle.std.proofs.lemmas.List.Sorted.{IsPermutation-append_comm}
use Rattle.std.proofs.lemmas.Map.Text.{is_eq-slice_cmp}
use Rattle.vx_pages.specs.declared.local_piece.LocalPiece.{Ghosts}
use Rattle.vx_base.specs.Named.{Word, put, SameUnder}
use Rattle.vx_piece.specs.Seen.{Seen}
use Rattle.vx_carve.specs.Together.{SameSectors}
use Rattle.vx_carve.proofs.Same.{same_beside, same_moved, same_trans}
use Rattle.vx_copies.specs.Lists.{AllOf}
use Rattle.vx_volume.specs.declared.log.VolumeLog.{VolumeLog}
use Rattle.vx_volume.specs.declared.volume.Volume.{Volume}
use Rattle.vx_volume.specs.Volume.{IsVolume, VolumeSeen, log_of, volume_seen}
use Rattle.vx_lending.specs.RegionPieces.{all_pieces}
use Rattle.vx_lending.specs.Left.{held_pieces, region_plexes}
use Rattle.vx_lending.specs.Logs.{log_pieces}
use Rattle.vx_lending.specs.declared.public.Public.{Public}
use Rattle.vx_lending.specs.declared.public.Running.{Running}
use Rattle.vx_lending.specs.Public.{lent_pieces, running_pieces, still_pieces, stuck_pieces}
use Rattle.vx_group_start.specs.Closed.{IsSameRunning, IsSameVolume}
use Rattle.vx_group_start.specs.Laying.{AreRunningVolumes, AreStuckVolumes, public_pieces}
use Rattle.vx_house_calls.proofs.Entries.{flat_around}

-- what stands under each name once one is put
pub puts_as : {X : Type 0} (old new : BTreeMap Word X) (key : Word) (o : Option X) → ((q : Word) → get (slice_cmp nat_cmp) new q ≡ cond (is_eq (slice_cmp nat_cmp key q)) o (get (slice_cmp nat_cmp) old q)) → SameUnder (put key o (get (slice_cmp nat_cmp) old)) (get (slice_cmp nat_cmp) new)
puts_as old new key o puts q = puts q ∙ ap (λ b. cond b o (get (slice_cmp nat_cmp) old q)) (is_eq-slice_cmp key q)

-- ---- one entry is taken out

-- the entry of a key that was found, and the others
pub record IsTakenAt {X : Type 0} (es es' : List (Word × X)) (x : X) : Type 0 where
  pub key : Word
  pub before : List (Word × X)
  pub behind : List (Word × X)
  pub was : es ≡ before ++ (key, x) ∷ behind
  pub is : es' ≡ before ++ behind

module _ {X : Type 0} (test : Word → Bool) (x : X) where
  taken_by : (b : Bool) (e : Word × X) (es : List (Word × X)) → (lookup test es ≡ Some x → IsTakenAt es (remove_entry test es) x) → cond b (Some e.1) (lookup test es) ≡ Some x → IsTakenAt (e ∷ es) (cond b es (e ∷ remove_entry test es)) x
  taken_by true e es more found = let same : e.1 ≡ x = cc in record { key = e.0; before = []; behind = es; was = ap (λ (y : X). (e.0, y) ∷ es) same; is = refl }
  taken_by false e es more found = let m = more found in record { key = m.key; before = e ∷ m.before; behind = m.behind; was = ap (λ xs. e ∷ xs) m.was; is = ap (λ xs. e ∷ xs) m.is }

  pub taken_at : (es : List (Word × X)) → lookup test es ≡ Some x → IsTakenAt es (remove_entry test es) x
  taken_at [] found = absurd (let no : None ≡ Some x = found in cc)
  taken_at (e ∷ es) found = taken_by (test e.0) e es (taken_at es) found

pub all_without : {A : Type 0} (Q : A → Type 0) (xs : List A) (x : A) (ys : List A) → AllOf Q (xs ++ x ∷ ys) → AllOf Q (xs ++ ys) × Q x
all_without Q [] x ys all = (all.1, all.0)
all_without Q (z ∷ xs) x ys all = let r = all_without Q xs x ys all.1 in ((all.0, r.0), r.1)

-- a stretch comes to the front
to_front : (xs hs rs : List Seen) → SameSectors (xs ++ (hs ++ rs)) (hs ++ (xs ++ rs))
to_front xs hs rs =
    subst (λ (zs : List Seen). SameSectors zs (hs ++ (xs ++ rs))) (append_assoc xs hs rs)
    (subst (λ (zs : List Seen). SameSectors ((xs ++ hs) ++ rs) zs) (append_assoc hs xs rs) (same_beside rs (xs ++ hs) (hs ++ xs) (same_moved _ _ (IsPermutation-append_comm xs hs))))

module _ {P : Type 0} {ghosts : Ghosts P} (see : P → Seen) (old mid : Public P ghosts) (test : Word → Bool) (r : Running P ghosts) (found : lookup test old.running.entries ≡ Some r)
    (entries : mid.running.entries ≡ remove_entry test old.running.entries) where
  at : IsTakenAt old.running.entries (remove_entry test old.running.entries) r
  at = taken_at test r old.running.entries found

  abbrev stuck_of : Public P ghosts → List Seen
  stuck_of p = flat_map (stuck_pieces see) p.stuck.items

  -- the volumes that run still, and the one that is taken out
  pub volumes_left : AreRunningVolumes see old.running.entries → AreRunningVolumes see mid.running.entries × IsVolume (volume_seen see r.volume)
  volumes_left all =
      let Q = λ (e : Word × Running P ghosts). IsVolume (volume_seen see e.1.volume) in
      let two = all_without Q at.before (at.key, r) at.behind (subst (AllOf Q) at.was all) in
      (subst (AllOf Q) (sym (entries ∙ at.is)) two.0, two.1)

  lent_was : lent_pieces see old ≡ flat_map (running_pieces see) at.before ++ (held_pieces see r.volume ++ (flat_map (running_pieces see) at.behind ++ stuck_of old))
  lent_was = ap (λ es. flat_map (running_pieces see) es ++ stuck_of old) at.was ∙ flat_around (running_pieces see) at.before (at.key, r) at.behind (stuck_of old)

  lent_is : mid.stuck ≡ old.stuck → lent_pieces see mid ≡ flat_map (running_pieces see) at.before ++ (flat_map (running_pieces see) at.behind ++ stuck_of old)
  lent_is stuck =
      ap (λ es. flat_map (running_pieces see) es ++ stuck_of mid) (entries ∙ at.is)
      ∙ (ap (λ s. flat_map (running_pieces see) (at.before ++ at.behind) ++ flat_map (stuck_pieces see) s.items) stuck
      ∙ (ap (λ zs. zs ++ stuck_of old) (flat_map-append (running_pieces see) at.before at.behind)
      ∙ append_assoc (flat_map (running_pieces see) at.before) (flat_map (running_pieces see) at.behind) (stuck_of old)))

  -- its pieces come to the front
  pub one_out : mid.stuck ≡ old.stuck → still_pieces see mid ≡ still_pieces see old → SameSectors (public_pieces see old) (held_pieces see r.volume ++ public_pieces see mid)
  one_out stuck still =
      let ss = still_pieces see old in
      let xs = flat_map (running_pieces see) at.before in
      let ys = flat_map (running_pieces see) at.behind ++ stuck_of old in
      let hs = held_pieces see r.volume in
      subst (λ (zs : List Seen). SameSectors (ss ++ zs) (hs ++ public_pieces see mid)) (sym lent_was)
      (subst (λ (zs : List Seen). SameSectors (ss ++ (xs ++ (hs ++ ys))) (hs ++ (zs ++ lent_pieces see mid))) (sym still)
      (subst (λ (zs : List Seen). SameSectors (ss ++ (xs ++ (hs ++ ys))) (hs ++ (ss ++ zs))) (sym (lent_is stuck))
      (subst (λ (zs : List Seen). SameSectors zs (hs ++ (ss ++ (xs ++ ys)))) (append_assoc ss xs (hs ++ ys))
      (subst (λ (zs : List Seen). SameSectors ((ss ++ xs) ++ (hs ++ ys)) (hs ++ zs)) (append_assoc ss xs ys) (to_front (ss ++ xs) hs ys)))))

-- ---- it is put back, or kept

same_held : {P : Type 0} {ghosts : Ghosts P} (see : P → Seen) (old new : Volume P ghosts) → IsSameVolume see old new → held_pieces see new ≡ held_pieces see old
same_held {P = P} {ghosts = ghosts} see old new same =
    ap (λ (v : VolumeSeen). all_pieces (region_plexes v.cells) ++ log_pieces see (log_of new)) same.seen_is ∙ ap (λ (log : VolumeLog P ghosts). all_pieces (region_plexes (volume_seen see old).cells) ++ log_pieces see log) same.log_is

all_last : {A : Type 0} (Q : A → Type 0) (xs : List A) (x : A) → AllOf Q xs → Q x → AllOf Q (xs ++ x ∷ [])
all_last Q [] x all one = (one, tt)
all_last Q (y ∷ xs) x all one = (all.0, all_last Q xs x all.1 one)

module _ {P : Type 0} {ghosts : Ghosts P} (see : P → Seen) (old new : Public P ghosts) (running : new.running ≡ old.running) (stuck : new.stuck ≡ old.stuck) where
  same_lent : lent_pieces see new ≡ lent_pieces see old
  same_lent =
      ap (λ m. flat_map (running_pieces see) m.entries ++ flat_map (stuck_pieces see) new.stuck.items) running
      ∙ ap (λ s. flat_map (running_pieces see) old.running.entries ++ flat_map (stuck_pieces see) s.items) stuck

  pub volume_put : (xs : List Seen) → SameSectors (xs ++ still_pieces see old) (still_pieces see new) → SameSectors (xs ++ public_pieces see old) (public_pieces see new)
  volume_put xs put = subst (λ (zs : List Seen). SameSectors (xs ++ public_pieces see old) (still_pieces see new ++ zs)) (sym same_lent)
      (subst (λ (zs : List Seen). SameSectors zs (still_pieces see new ++ lent_pieces see old)) (append_assoc xs (still_pieces see old) (lent_pieces see old)) (same_beside (lent_pieces see old) (xs ++ still_pieces see old) (still_pieces see new) put))

  -- kept among those that could not be put back
  pub volume_kept : (now : Public P ghosts) (r back : Running P ghosts) → IsSameRunning see r back → still_pieces see now ≡ still_pieces see new → now.running ≡ new.running → now.stuck.items ≡ new.stuck.items ++ back ∷ [] →
      SameSectors (still_pieces see old) (still_pieces see new) → SameSectors (held_pieces see r.volume ++ public_pieces see old) (public_pieces see now)
  volume_kept now r back same still runs e kept =
      let hs = held_pieces see r.volume in
      let rs = flat_map (running_pieces see) old.running.entries in
      let ts = flat_map (stuck_pieces see) old.stuck.items in
      let lent : lent_pieces see now ≡ rs ++ (ts ++ hs) =
      ap (λ m. flat_map (running_pieces see) m.entries ++ flat_map (stuck_pieces see) now.stuck.items) (runs ∙ running)
      ∙ (ap (λ xs. rs ++ flat_map (stuck_pieces see) xs) (e ∙ ap (λ s. s.items ++ back ∷ []) stuck)
      ∙ ap (λ zs. rs ++ zs) (flat_map-append (stuck_pieces see) old.stuck.items (back ∷ []) ∙ ap (λ zs. ts ++ zs) (one_of back ∙ same_held see r.volume back.volume same.volume_is))) in
      subst (λ (zs : List Seen). SameSectors (hs ++ (still_pieces see old ++ (rs ++ ts))) (zs ++ lent_pieces see now)) (sym still)
      (subst (λ (zs : List Seen). SameSectors (hs ++ (still_pieces see old ++ (rs ++ ts))) (still_pieces see new ++ zs)) (sym lent)
      (same_trans _ _ _ (to_end hs (still_pieces see old) rs ts) (same_beside (rs ++ (ts ++ hs)) (still_pieces see old) (still_pieces see new) kept)))
    where
      one_of : (b : Running P ghosts) → flat_map (stuck_pieces see) (b ∷ []) ≡ held_pieces see b.volume
      one_of b = append_nil_of (held_pieces see b.volume)
        where
          append_nil_of : (zs : List Seen) → zs ++ [] ≡ zs
          append_nil_of [] = refl
          append_nil_of (z ∷ zs) = ap (λ ys. z ∷ ys) (append_nil_of zs)

      to_end : (hs ss rs ts : List Seen) → SameSectors (hs ++ (ss ++ (rs ++ ts))) (ss ++ (rs ++ (ts ++ hs)))
      to_end hs ss rs ts =
          subst (λ (zs : List Seen). SameSectors (hs ++ (ss ++ (rs ++ ts))) (ss ++ zs)) (append_assoc rs ts hs)
          (subst (λ (zs : List Seen). SameSectors (hs ++ (ss ++ (rs ++ ts))) zs) (append_assoc ss (rs ++ ts) hs) (same_moved _ _ (IsPermutation-append_comm hs (ss ++ (rs ++ ts)))))

pub stuck_more : {P : Type 0} {ghosts : Ghosts P} (see : P → Seen) (old now : List (Running P ghosts)) (r back : Running P ghosts) → IsSameRunning see r back → now ≡ old ++ back ∷ [] → IsVolume (volume_seen see r.volume) → AreStuckVolumes see old → AreStuckVolumes see now
stuck_more {P = P} {ghosts = ghosts} see old now r back same e whole all =
    let Q = λ (x : Running P ghosts). IsVolume (volume_seen see x.volume) in
    subst (AllOf Q) (sym e) (all_last Q old back all (subst IsVolume (sym same.volume_is.seen_is) whole))
