-- A device that was to join the imported group: the disks before and now, with their whole devices.
use Rattle.std.proofs.Common.{◌≡◌, ◌∙◌, ℕ, suc, ◌+◌, ◌≤◌, ◌≢◌, List, [], ◌∷◌, ◌++◌, map, length, take, drop, Option, Some, None, refl, sym, ap, subst}
use Rattle.std.specs.Prelude.{IfSome, MatchOption}
use Rattle.std.proofs.lemmas.List.{append-nil, take-append-drop}
use Rattle.vx_pages.specs.declared.local_piece.LocalPiece.{Ghosts}
use Rattle.vx_base.specs.Blocks.{Contents}
use Rattle.vx_piece.specs.Seen.{Seen}
use Rattle.vx_copies.specs.Disks.{DiskSeen, disk_seen, CommitGoes, IsReady}
use Rattle.vx_copies.specs.Lists.{AllOf, Each}
use Rattle.vx_copies.specs.declared.disk.Disk.{Disk}
use Rattle.vx_confdb.specs.Add.{IsTaken}
use Rattle.vx_confdb.specs.Create.{Joins}
use Rattle.vx_confdb.specs.Enlisted.{IsEnlisted, with_disk}
use Rattle.vx_confdb.specs.Groups.{members}
use Rattle.vx_confdb.specs.Prepare.{Tells}
use Rattle.vx_fronts.specs.Fronts.{HasPrivate, Rest, Rests, whole_told, with_device}
use Rattle.vx_fronts.specs.Laws.{Gains, whole_disks}
use Rattle.vx_fronts.specs.Parted.{AreParted}
use Rattle.vx_fronts.specs.RestLaws.{IsApart}
use Rattle.vx_fronts.specs.Rests.{rests_of}
use Rattle.vx_fronts.proofs.Disks.{ready_one}
use Rattle.vx_fronts.proofs.Entries.{drop_back, each_entry, second_now, take_front}
use Rattle.vx_fronts.proofs.Groups.{all_whole, private_then, take_whole, whole_goes}
use Rattle.vx_fronts.proofs.Joined.{joined_parted, joined_unparted}
use Rattle.vx_fronts.proofs.Parted.{parted_entered, private_parted}
use Rattle.vx_lending.specs.Public.{lent_pieces, still_pieces}
use Rattle.vx_objects.specs.declared.config.Config.{Config}
use Rattle.vx_script_words.specs.declared.value.DiskAt.{DiskAt}
use Rattle.vx_house.specs.Holders.{Holder, holders, volume_holder, group_rests, holder_in, whole_members, AreHeld, AreApart, IsTakenFrom}
use Rattle.vx_house.specs.Scene.{Shelved}
use Rattle.vx_house.specs.View.{IsGroupKept, IsGroupWhole, KeepsHouse}
use Rattle.vx_house.specs.declared.house.House.{House}
use Rattle.vx_house.specs.declared.house.Imported.{Imported}
use Rattle.vx_house.specs.declared.house.Taken.{Taken}
use Rattle.vx_house.proofs.AllLaws.{all_append, all_back, all_front}
use Rattle.vx_house.proofs.Founded.{others_differ}
use Rattle.vx_house.proofs.Returns.{apart_back, apart_front}
use Rattle.vx_copies.proofs.ToggleOrder.{each_all}
use Rattle.vx_stage_changes.specs.Joining.{disk_for, IsJoin, IsInHand}
use Rattle.vx_stage_changes.proofs.Entry.{held_long, holders_before}
use Rattle.vx_group_start.specs.Laying.{AreRunningVolumes, AreStuckVolumes}

-- ---- disks with their whole devices

number_whole : (o : Option Rest) (h : DiskSeen) → (with_device o h).seen.device ≡ h.seen.device
number_whole None h = refl
number_whole (Some r) h = refl

all_fronts : (rests : Rests) (d : ℕ) (hs : List DiskSeen) → AllOf (λ h. h.seen.device ≢ d) (whole_disks rests hs) → AllOf (λ h. h.seen.device ≢ d) hs
all_fronts rests d [] all = tt
all_fronts rests d (h ∷ hs) all = ((λ same. all.0 (number_whole (rests h.seen.device) h ∙ same)), all_fronts rests d hs all.1)

front_tells : (o : Option Rest) (h : DiskSeen) → Tells (with_device o h) → Tells h
front_tells None h tells = tells
front_tells (Some r) h tells = by h.seen.told tells
  where
    by : (t : Option Contents) → MatchOption (whole_told h.seen.sectors r.contents t) ⊥ (λ c. Unit {0}) → MatchOption t ⊥ (λ c. Unit {0})
    by None is = is
    by (Some c) is = tt

pub fronts_tell : (rests : Rests) (hs : List DiskSeen) → AllOf Tells (whole_disks rests hs) → AllOf Tells hs
fronts_tell rests [] all = tt
fronts_tell rests (h ∷ hs) all = (front_tells (rests h.seen.device) h all.0, fronts_tell rests hs all.1)

long_whole : (rests : Rests) (hs : List DiskSeen) → length (whole_disks rests hs) ≡ length hs
long_whole rests [] = refl
long_whole rests (h ∷ hs) = ap suc (long_whole rests hs)

-- A house whose only device in hand was to join its group: with this configuration, and as they are now.
pub record IsAdmitted {P : Type 0} {ghosts : Ghosts P} (see : P → Seen) (shelf : Shelved) (pair : DiskAt) (old now : House P ghosts) (g g' : Imported P ghosts) (t : Taken P) (slot : ℕ) (text : List ℕ) (next : Config) : Type 0 where
  pub keeps : KeepsHouse see old
  pub held : AreHeld shelf.held (holders see old)
  pub has : old.group ≡ Some g
  pub is_now : now.group ≡ Some g'
  pub volumes : now.volumes ≡ old.volumes
  pub public : g'.public ≡ g.public
  pub in_hand : IsInHand pair t old.hand.items
  pub empty : now.hand.items ≡ []
  pub join : IsJoin see pair t g next text slot
  pub taken : IsTaken see text (disk_for see pair slot t) g.base g'.base
  pub enlisted : IsEnlisted g.base.name (g.base.sequence + 1) g'.base.sequence (length g.base.disks.items) text (with_disk see g.base (disk_for see pair slot t)) (members see g'.base)

module _ {P : Type 0} {ghosts : Ghosts P} {see : P → Seen} {shelf : Shelved} {pair : DiskAt} {old now : House P ghosts} {g g' : Imported P ghosts} {t : Taken P} {slot : ℕ} {text : List ℕ} {next : Config} (a : IsAdmitted see shelf pair old now g g' t slot text next) where
  abbrev disk : Disk P
  disk = disk_for see pair slot t

  abbrev first : ℕ
  first = g.base.sequence + 1

  abbrev number : ℕ
  number = g'.base.sequence

  abbrev pub rests : Rests
  rests = group_rests see g

  -- the fronts of the group's disks, before and now, and the disk that joins
  abbrev pub fs : List DiskSeen
  fs = members see g.base

  abbrev pub js : List DiskSeen
  js = disk_seen see disk ∷ []

  abbrev pub ns : List DiskSeen
  ns = members see g'.base

  abbrev pub n : ℕ
  n = length fs

  -- the same with their whole devices
  abbrev pub hs : List DiskSeen
  hs = whole_members see g

  abbrev pub ws : List DiskSeen
  ws = whole_disks rests ns

  abbrev pub bs : List DiskSeen
  bs = take n ws

  abbrev pub ks : List DiskSeen
  ks = drop n ws

  abbrev vs : List Holder
  vs = map (volume_holder see) old.volumes.entries

  pub whole : bs ++ ks ≡ ws
  whole = take-append-drop n ws

  pub wholes_now : whole_members see g' ≡ ws
  wholes_now = ap (λ p. whole_disks (rests_of (still_pieces see p ++ lent_pieces see p) []) ns) a.public

  pub kept : IsGroupKept see g
  kept = subst (λ o. IfSome o (IsGroupKept see)) a.has a.keeps.group

  long : length g.base.disks.items ≡ n
  long = held_long see g.base.disks.items

  pub goes_fronts : Each (CommitGoes first number text) fs (take n ns)
  goes_fronts = subst (λ m. Each (CommitGoes first number text) fs (take m ns)) long a.taken.goes

  pub joins_fronts : Each (Joins g.base.name text) js (drop n ns)
  joins_fronts = subst (λ m. Each (Joins g.base.name text) js (drop m ns)) long a.taken.joins

  -- ---- the disk that joins is apart from the others

  pub was : holders see old ≡ vs ++ (map holder_in (hs ++ js) ++ [])
  was = holders_before see old g t disk a.has a.in_hand.only refl refl

  each_whole : AllOf (IsTakenFrom shelf.held) (map holder_in (hs ++ js))
  each_whole = all_front (IsTakenFrom shelf.held) (map holder_in (hs ++ js)) [] (all_back (IsTakenFrom shelf.held) vs (map holder_in (hs ++ js) ++ []) (subst (AllOf (IsTakenFrom shelf.held)) was a.held.each))

  apart_whole : AreApart (map holder_in (hs ++ js))
  apart_whole = apart_front (map holder_in (hs ++ js)) [] (apart_back vs (map holder_in (hs ++ js) ++ []) (subst AreApart was a.held.apart))

  last_of : (Q : Holder → Type 0) (xs : List DiskSeen) (j : DiskSeen) → AllOf Q (map holder_in (xs ++ j ∷ [])) → Q (holder_in j)
  last_of Q [] j all = all.0
  last_of Q (x ∷ xs) j all = last_of Q xs j all.1

  pub apart : IsApart fs (disk_seen see disk)
  apart = record {
    front = record { start = (last_of (IsTakenFrom shelf.held) hs (disk_seen see disk) each_whole).0; private = a.join.fresh.private };
    whole = refl;
    other = all_fronts rests (see t.piece).device fs (others_differ shelf.held a.held.numbers hs (disk_seen see disk) each_whole apart_whole);
  }

  pub parted : AreParted fs (still_pieces see g.public ++ lent_pieces see g.public)
  parted = kept.whole.parted

  pub private : AllOf HasPrivate fs
  private = private_parted fs (still_pieces see g.public ++ lent_pieces see g.public) parted

  private_joiner : AllOf HasPrivate js
  private_joiner = (record { front = a.join.fresh.private; device = a.join.fresh.private }, tt)

  -- ---- what was written to the fronts was written to the devices

  pub gains : Gains rests g.base.name first number text fs js ns
  gains = record {
    private = all_append HasPrivate fs js private private_joiner;
    alone = (joined_unparted fs (still_pieces see g.public ++ lent_pieces see g.public) [] (disk_seen see disk) apart (subst (AreParted fs) (sym (append-nil (still_pieces see g.public ++ lent_pieces see g.public))) parted), tt);
    goes = goes_fronts;
    joins = joins_fronts;
  }

  pub entered : IsEnlisted g.base.name first number n text (hs ++ js) ws
  entered = each_entry rests g.base.name first number text fs js ns gains (subst (λ m. IsEnlisted g.base.name first number m text (fs ++ js) ns) long a.enlisted)

  pub goes : Each (CommitGoes first number text) hs bs
  goes = subst (Each (CommitGoes first number text) hs) (sym (take_whole rests n ns)) (whole_goes rests first number text fs (take n ns) goes_fronts private)

  pub joins : Each (Joins g.base.name text) js ks
  joins = subst (Each (Joins g.base.name text) js) (sym (second_now rests g.base.name first number text fs js ns gains)) joins_fronts

  pub private_now : AllOf HasPrivate ns
  private_now = subst (AllOf HasPrivate) (take-append-drop n ns) (all_append HasPrivate (take n ns) (drop n ns) (private_then rests first number text fs (take n ns) goes_fronts private)
      (each_all (Joins g.base.name text) HasPrivate HasPrivate (λ x y is p. record { front = subst (λ k. 2048 ≤ k) (sym is.kept.sectors) p.front; device = subst (λ k. 2048 ≤ k) (sym is.size) p.device }) js (drop n ns) joins_fronts private_joiner))

  pub ready : AllOf IsReady hs
  ready = all_whole rests IsReady IsReady (λ o h wide is. ready_one o h wide is) fs private kept.carries.alive.ready

  -- the first of the lists, and what is behind it
  pub front_is : take n (hs ++ js) ≡ hs
  front_is = take_front n hs js (sym (long_whole rests fs))

  pub back_is : drop n (hs ++ js) ≡ js
  back_is = drop_back n hs js (sym (long_whole rests fs))

  -- ---- the devices can be joined, as before

  abbrev behind : List Seen
  behind = still_pieces see g.public ++ lent_pieces see g.public

  pub parted_now : AreParted ns behind
  parted_now = subst (λ l. AreParted l behind) (take-append-drop n ns)
      (parted_entered g.base.name first number text fs (take n ns) js (drop n ns) behind goes_fronts joins_fronts (joined_parted fs behind (disk_seen see disk) apart parted))

  pub whole_entered : IsGroupWhole see g'
  whole_entered = record {
    parted = subst (λ p. AreParted ns (still_pieces see p ++ lent_pieces see p)) (sym a.public) parted_now;
    volumes = subst (λ p. AreRunningVolumes see p.running.entries) (sym a.public) kept.whole.volumes;
    stuck = subst (λ p. AreStuckVolumes see p.stuck.items) (sym a.public) kept.whole.stuck;
  }

  pub whole_here : IfSome now.group (IsGroupWhole see)
  whole_here = subst (λ o. IfSome o (IsGroupWhole see)) (sym a.is_now) whole_entered
