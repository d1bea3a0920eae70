-- The group's devices, of which some or all are joined again.
use Rattle.std.proofs.Common.{◌≡◌, ◌≢◌, ◌∙◌, Bool, true, false, List, [], ◌∷◌, ◌++◌, map, Option, Some, None, refl, sym, ap, subst}
use Rattle.std.specs.Prelude.{◌==◌, is_some, length}
use Rattle.std.specs.Global.{Vec}
use Rattle.std.specs.BTreeMap.{BTreeMap}
use Rattle.std.proofs.lemmas.List.{append-nil}
use Rattle.std.proofs.lemmas.List.Elements.{All-nil, All-cons}
use Rattle.vx_pages.specs.declared.local_piece.LocalPiece.{Ghosts}
use Rattle.vx_base.specs.Blocks.{Contents}
use Rattle.vx_base.specs.Named.{Word}
use Rattle.vx_piece.specs.Seen.{Seen}
use Rattle.vx_copies.specs.Disks.{DiskSeen, disk_seen, good_mask}
use Rattle.vx_copies.specs.Lists.{AllOf, Each}
use Rattle.vx_copies.specs.declared.disk.Disk.{Disk}
use Rattle.vx_confdb.specs.Groups.{members}
use Rattle.vx_confdb.specs.declared.group.Group.{Group}
use Rattle.vx_fronts.specs.Fronts.{Rest, Rests, whole_told, with_device}
use Rattle.vx_fronts.specs.Laws.{whole_disks}
use Rattle.vx_fronts.specs.Parted.{AreParted, AreSameWhole, IsSameDisk, fronts_of}
use Rattle.vx_fronts.specs.Rests.{AllTell, IsTelling, rests_of, untold}
use Rattle.vx_lending.specs.Public.{lent_pieces}
use Rattle.vx_house.specs.Holders.{disk_holder, group_holders, holder_in}
use Rattle.vx_house.specs.View.{IsGroupIdle, IsGroupWhole, group_of, member_in, member_of}
use Rattle.vx_house.specs.declared.house.Imported.{Imported}
use Rattle.vx_house.proofs.Wholes.{mapped_holders, mapped_members, still_idle, lent_idle, rests_idle}
use Rattle.vx_group_start.specs.Laying.{AreRunningVolumes, AreStuckVolumes}

-- ---- disks that tell nothing

abbrev pub IsSilent : DiskSeen → Type 0
IsSilent h = h.seen.told ≡ None

none_told : (o : Option Contents) → is_some o ≡ false → o ≡ None
none_told None is = refl
none_told (Some c) is = cc

untold_same : (h : DiskSeen) → IsSilent h → untold h ≡ h
untold_same h silent = ap (λ o. record h { seen = record h.seen { told = o } }) (sym silent)

silent_with : (o : Option Rest) (h : DiskSeen) → IsSilent h → IsSilent (with_device o h)
silent_with None h silent = silent
silent_with (Some r) h silent = ap (whole_told h.seen.sectors r.contents) silent

pub untold_all : (hs : List DiskSeen) → AllOf IsSilent hs → map untold hs ≡ hs
untold_all [] all = refl
untold_all (h ∷ hs) all = ap (λ x. x ∷ map untold hs) (untold_same h all.0) ∙ ap (λ xs. h ∷ xs) (untold_all hs all.1)

silent_wholes : (rests : Rests) (hs : List DiskSeen) → AllOf IsSilent hs → AllOf IsSilent (whole_disks rests hs)
silent_wholes rests [] all = tt
silent_wholes rests (h ∷ hs) all = (silent_with (rests h.seen.device) h all.0, silent_wholes rests hs all.1)

-- ---- all pieces tell, or none does

module _ {P : Type 0} (see : P → Seen) (alike : (p q : P) → is_some (see p).told ≡ is_some (see q).told) where
  tell_all : (d : Disk P) → is_some (see d.piece).told ≡ true → (ds : List (Disk P)) → AllTell (fronts_of (map (disk_seen see) ds))
  tell_all d tells [] = All-nil IsTelling
  tell_all d tells (e ∷ es) = All-cons IsTelling (see e.piece) (fronts_of (map (disk_seen see) es)) (alike e.piece d.piece ∙ tells) (tell_all d tells es)

  silent_all : (d : Disk P) → is_some (see d.piece).told ≡ false → (ds : List (Disk P)) → AllOf IsSilent (map (disk_seen see) ds)
  silent_all d silent [] = tt
  silent_all d silent (e ∷ es) = (none_told (see e.piece).told (alike e.piece d.piece ∙ silent), silent_all d silent es)

  -- the same whole devices, whether they are told or not
  module _ (rests rests' : Rests) (ds es : List (Disk P))
      (counts : map untold (whole_disks rests' (map (disk_seen see) es)) ≡ map untold (whole_disks rests (map (disk_seen see) ds)))
      (told : AllTell (fronts_of (map (disk_seen see) ds)) → whole_disks rests' (map (disk_seen see) es) ≡ whole_disks rests (map (disk_seen see) ds)) where
    by_silence : AllOf IsSilent (map (disk_seen see) ds) → AllOf IsSilent (map (disk_seen see) es) → whole_disks rests' (map (disk_seen see) es) ≡ whole_disks rests (map (disk_seen see) ds)
    by_silence xs ys = sym (untold_all _ (silent_wholes rests' _ ys)) ∙ counts ∙ untold_all _ (silent_wholes rests _ xs)

    by_first : (d : Disk P) (b : Bool) → is_some (see d.piece).told ≡ b → whole_disks rests' (map (disk_seen see) es) ≡ whole_disks rests (map (disk_seen see) ds)
    by_first d true tells = told (tell_all d tells ds)
    by_first d false silent = by_silence (silent_all d silent ds) (silent_all d silent es)

    by_list : (xs : List (Disk P)) → ds ≡ xs → whole_disks rests' (map (disk_seen see) es) ≡ whole_disks rests (map (disk_seen see) ds)
    by_list [] is = told (subst (λ zs. AllTell (fronts_of (map (disk_seen see) zs))) (sym is) (All-nil IsTelling))
    by_list (x ∷ xs) is = by_first x (is_some (see x.piece).told) refl

    pub same_whole : whole_disks rests' (map (disk_seen see) es) ≡ whole_disks rests (map (disk_seen see) ds)
    same_whole = by_list ds refl

-- ---- disks that are parted otherwise are the world's members as before

same_disks : (hs ks : List DiskSeen) → Each IsSameDisk hs ks → (good_mask ks ≡ good_mask hs) × (map member_in ks ≡ map member_in hs)
same_disks [] [] each = (refl, refl)
same_disks [] (k ∷ ks) each = absurd each
same_disks (h ∷ hs) [] each = absurd each
same_disks (h ∷ hs) (k ∷ ks) each =
    let rest = same_disks hs ks each.1 in
    let good = each.0.good in
    let slot = each.0.slot in
    let name = each.0.name in
    let device = each.0.device in
    let mask = rest.0 in
    let list = rest.1 in
    (cc, cc)

-- a list that is not found empty has something
pub some_there : {X : Type 0} (xs ys : List X) (b : Bool) → ys ≡ xs → b ≡ (length ys == 0) → b ≡ false → xs ≢ []
some_there xs ys b same is full none =
    let empty : ys ≡ [] = same ∙ none in
    let zero : (length ys == 0) ≡ true = ap (λ zs. length zs == 0) empty in
    cc

-- as many disks, so some where there were some
pub still_some : {P : Type 0} (see : P → Seen) (ds es : List (Disk P)) → Each IsSameDisk (map (disk_seen see) ds) (map (disk_seen see) es) → ds ≢ [] → es ≢ []
still_some see [] es each some = absurd (some refl)
still_some see (d ∷ ds) [] each some = absurd each
still_some see (d ∷ ds) (e ∷ es) each some = λ none. cc

-- ---- the group

module _ {P : Type 0} {ghosts : Ghosts P} (see : P → Seen) (alike : (p q : P) → is_some (see p).told ≡ is_some (see q).told) (old new : Imported P ghosts)
    (whole : IsGroupWhole see old) (idle : IsGroupIdle old) (running : new.public.running ≡ old.public.running) (left : new.public.left ≡ old.public.left) (stuck : new.public.stuck ≡ old.public.stuck)
    (same : AreSameWhole [] (members see old.base) (members see new.base) (map see old.public.pool.items.items) (map see new.public.pool.items.items)) where
  pub idle_new : IsGroupIdle new
  idle_new = record { running = ap (λ (rs : BTreeMap Word _). rs.entries) running ∙ idle.running; left = ap (λ (ls : Vec _). ls.items) left ∙ idle.left; stuck = ap (λ (ls : Vec _). ls.items) stuck ∙ idle.stuck }

  -- where some were joined
  pub holders_same : group_holders see (Some new) ≡ group_holders see (Some old)
  holders_same = ap (map holder_in) (
      ap (λ x. whole_disks x (members see new.base)) (rests_idle see new idle_new)
      ∙ same_whole see alike (rests_of (map see old.public.pool.items.items) []) (rests_of (map see new.public.pool.items.items) []) old.base.disks.items new.base.disks.items same.counts same.whole
      ∙ sym (
      ap (λ x. whole_disks x (members see old.base)) (rests_idle see old idle)
      )
      )

  pub whole_new : IsGroupWhole see new
  whole_new = record {
    parted =
        subst (λ x. AreParted (members see new.base) (x ++ lent_pieces see new.public)) (sym (still_idle see new idle_new))
        (subst (λ x. AreParted (members see new.base) (map see new.public.pool.items.items ++ x)) (sym (lent_idle see new idle_new)) same.parted);
    volumes = subst (AreRunningVolumes see) (sym idle_new.running) tt;
    stuck = subst (AreStuckVolumes see) (sym idle_new.stuck) tt;
  }

-- the world has the group as before, whatever of its devices was joined
module _ {P : Type 0} {ghosts : Ghosts P} (see : P → Seen) (old new : Imported P ghosts) where
  pub group_same : new.config ≡ old.config → new.base ≡ record old.base { disks = new.base.disks } → Each IsSameDisk (members see old.base) (members see new.base) →
      group_of see (Some new) ≡ group_of see (Some old)
  group_same config base disks =
      let same = same_disks (members see old.base) (members see new.base) disks in
      let mask : good_mask (members see new.base) ≡ good_mask (members see old.base) = same.0 in
      let list : map member_of new.base.disks.items ≡ map member_of old.base.disks.items = mapped_members see new.base.disks.items ∙ same.1 ∙ sym (mapped_members see old.base.disks.items) in
      let number : new.base.sequence ≡ old.base.sequence = ap (λ (b : Group P). b.sequence) base in
      cc

-- the disks of a group whose devices are all joined
module _ {P : Type 0} {ghosts : Ghosts P} (see : P → Seen) (alike : (p q : P) → is_some (see p).told ≡ is_some (see q).told) (old : Imported P ghosts) (whole : IsGroupWhole see old) (idle : IsGroupIdle old) where
  -- what its devices are behind their fronts
  pub parted_alone : AreParted (members see old.base) (map see old.public.pool.items.items)
  parted_alone = subst (AreParted (members see old.base)) (append-nil (map see old.public.pool.items.items))
      (subst (λ x. AreParted (members see old.base) (map see old.public.pool.items.items ++ x)) (lent_idle see old idle)
      (subst (λ x. AreParted (members see old.base) (x ++ lent_pieces see old.public)) (still_idle see old idle) whole.parted))

  pub holders_joined : (es : List (Disk P)) →
      map untold (map (disk_seen see) es) ≡ map untold (whole_disks (rests_of (map see old.public.pool.items.items) []) (members see old.base)) →
      (AllTell (fronts_of (members see old.base)) → map (disk_seen see) es ≡ whole_disks (rests_of (map see old.public.pool.items.items) []) (members see old.base)) →
      map (disk_holder see) es ≡ group_holders see (Some old)
  holders_joined es counts told =
      mapped_holders see es
      ∙ ap (map holder_in) (
      sym (none_rest (map (disk_seen see) es))
      ∙ same_whole see alike (rests_of (map see old.public.pool.items.items) []) no_rests old.base.disks.items es (ap (map untold) (none_rest (map (disk_seen see) es)) ∙ counts) (λ all. none_rest (map (disk_seen see) es) ∙ told all)
      ∙ sym (
      ap (λ x. whole_disks x (members see old.base)) (rests_idle see old idle)
      )
      )
    where
      no_rests : Rests
      no_rests device = None

      none_rest : (hs : List DiskSeen) → whole_disks no_rests hs ≡ hs
      none_rest [] = refl
      none_rest (h ∷ hs) = ap (λ rest. h ∷ rest) (none_rest hs)
