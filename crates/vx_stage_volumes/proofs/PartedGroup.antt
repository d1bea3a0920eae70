-- The devices of a group are parted otherwise: in the world nothing has changed, and the group is kept.
use Rattle.std.proofs.Common.{◌≡◌, ◌∙◌, ◌==◌, ℕ, List, [], ◌∷◌, ◌++◌, map, Option, Some, None, refl, sym, ap, subst, append_assoc}
use Rattle.std.specs.Global.{Vec}
use Rattle.std.specs.Prelude.{is_some, MatchOption}
use Rattle.std.specs.BTreeMap.{BTreeMap}
use Rattle.std.specs.List.{All, flat_map, list_any}
use Rattle.std.proofs.lemmas.List.{append-nil}
use Rattle.vx_pages.specs.declared.local_piece.LocalPiece.{Ghosts}
use Rattle.vx_base.specs.Blocks.{Contents}
use Rattle.vx_base.specs.Named.{Word}
use Rattle.vx_piece.specs.Seen.{AreCounts, EndsThere, Seen}
use Rattle.vx_carve.specs.Together.{HasSome, SameSectors, TellsFront}
use Rattle.vx_carve.proofs.Same.{same_beside, same_refl}
use Rattle.vx_carve.specs.declared.pool.Pool.{Pool}
use Rattle.vx_copies.specs.Disks.{DiskSeen, HasSlot, disk_seen, good_mask}
use Rattle.vx_copies.specs.Lists.{AllOf, Each}
use Rattle.vx_copies.specs.declared.disk.Disk.{Disk}
use Rattle.vx_copies.specs.declared.writing.Lost.{Lost}
use Rattle.vx_confdb.specs.Groups.{CarriesText, IsAlive, IsGroup, members}
use Rattle.vx_confdb.specs.Texts.{text_of}
use Rattle.vx_confdb.specs.declared.group.Group.{Group}
use Rattle.vx_fronts.specs.Fronts.{Rest, Rests, with_device}
use Rattle.vx_fronts.specs.Laws.{whole_disks}
use Rattle.vx_fronts.specs.Parted.{AreParted, AreSameWhole, IsSameDisk, Reparts, fronts_of}
use Rattle.vx_fronts.specs.Rests.{bare, rests_of, untold}
use Rattle.vx_fronts.proofs.Behind.{rests_counted, rests_stay}
use Rattle.vx_fronts.proofs.Joined.{parts_once}
use Rattle.vx_fronts.proofs.Parted.{parted_once, parted_stay}
use Rattle.vx_fronts.proofs.Steps.{same_alone}
use Rattle.vx_moments.specs.Copies.{IsTextOf}
use Rattle.vx_config_parts.specs.declared.disk.Disk.{Disk as Record}
use Rattle.vx_objects.specs.declared.config.Config.{Config}
use Rattle.vx_stage_changes.proofs.Owns.{all_moved}
use Rattle.vx_lending.specs.declared.public.Public.{Public}
use Rattle.vx_lending.specs.declared.public.Running.{Running}
use Rattle.vx_lending.specs.Public.{lent_pieces, remaining_pieces, running_pieces, still_pieces, stuck_pieces}
use Rattle.vx_group_start.specs.Laying.{AreRunningVolumes, AreStuckVolumes}
use Rattle.vx_house.specs.Holders.{holder_in, whole_members}
use Rattle.vx_house.specs.Runs.{AllInPlace}
use Rattle.vx_house.specs.View.{AreRecorded, AreSized, HaveSlots, IsGroupKept}
use Rattle.vx_house.specs.declared.house.Imported.{Imported}
use Rattle.vx_house.proofs.Joined.{group_same, same_whole}
use Rattle.vx_stage_volumes.specs.Parting.{PartsGroup}
use Rattle.vx_stage_volumes.proofs.CarriesSame.{IsSameTold, each_told, gives_still, mask_same, offers_still}
use Rattle.vx_stage_volumes.proofs.PartedHouse.{disks_of}

-- a disk is the same as itself
same_self : (h : DiskSeen) → IsSameDisk h h
same_self h = record { name = refl; device = refl; slot = refl; size = refl; good = refl; half = refl; number = refl; start = refl; stop = refl; private = λ wide. wide; told = front h.seen.told }
  where
    front : (o : Option Contents) → TellsFront 2048 o o
    front None = refl
    front (Some c) = λ k low. refl

pub disks_self : (hs : List DiskSeen) → Each IsSameDisk hs hs
disks_self [] = tt
disks_self (h ∷ hs) = (same_self h, disks_self hs)

-- a disk, but for what is told of it, goes by its rest but for what that holds
untold_by : (o n : Option Rest) (h : DiskSeen) → bare n ≡ bare o → untold (with_device n h) ≡ untold (with_device o h)
untold_by o n h same = step n ∙ ap (λ x. untold (with_device x h)) same ∙ sym (step o)
  where
    step : (x : Option Rest) → untold (with_device x h) ≡ untold (with_device (bare x) h)
    step None = refl
    step (Some r) = refl

untold_each : (rests rests' : Rests) → ((device : ℕ) → bare (rests' device) ≡ bare (rests device)) → (hs : List DiskSeen) → map untold (whole_disks rests' hs) ≡ map untold (whole_disks rests hs)
untold_each rests rests' same [] = refl
untold_each rests rests' same (h ∷ hs) = λ i. untold_by (rests h.seen.device) (rests' h.seen.device) h (same h.seen.device) i ∷ untold_each rests rests' same hs i

-- where all pieces tell, or none does, pieces behind that are together what those were make the same devices
pub wholes_stay : {P : Type 0} (see : P → Seen) → ((p q : P) → is_some (see p).told ≡ is_some (see q).told) → (ds : List (Disk P)) (behind behind' : List Seen) → AreParted (map (disk_seen see) ds) behind → SameSectors behind behind' →
    whole_disks (rests_of behind' []) (map (disk_seen see) ds) ≡ whole_disks (rests_of behind []) (map (disk_seen see) ds)
wholes_stay see alike ds behind behind' parted together =
    let hs = map (disk_seen see) ds in
    same_whole see alike (rests_of behind []) (rests_of behind' []) ds ds
    (untold_each (rests_of behind []) (rests_of behind' []) (rests_counted behind behind' [] (subst (All HasSome) (sym (append-nil behind)) parted.some) together) hs)
    (λ tells. ap (λ r. whole_disks r hs) (rests_stay behind behind' [] (subst (All HasSome) (sym (append-nil behind)) parted.some) (parts_once (fronts_of hs) behind (parted_once hs behind parted)).1 (parted.tell tells) together))

-- ---- slots

slots_all : {P : Type 0} (see : P → Seen) (slot other : ℕ) → other ≡ slot → (ds es : List (Disk P)) → Each IsSameDisk (map (disk_seen see) ds) (map (disk_seen see) es) → AllOf (λ (d : Disk P). d.slot ≡ slot → ⊥) ds → AllOf (λ (d : Disk P). d.slot ≡ other → ⊥) es
slots_all see slot other same [] [] each all = tt
slots_all see slot other same [] (e ∷ es) each all = absurd each
slots_all see slot other same (d ∷ ds) [] each all = absurd each
slots_all see slot other same (d ∷ ds) (e ∷ es) each all = ((λ is. all.0 (sym each.0.slot ∙ is ∙ same)), slots_all see slot other same ds es each.1 all.1)

pub slots_same : {P : Type 0} (see : P → Seen) (ds es : List (Disk P)) → Each IsSameDisk (map (disk_seen see) ds) (map (disk_seen see) es) → HaveSlots ds → HaveSlots es
slots_same see [] [] each slots = tt
slots_same see [] (e ∷ es) each slots = absurd each
slots_same see (d ∷ ds) [] each slots = absurd each
slots_same see (d ∷ ds) (e ∷ es) each slots = (slots_all see d.slot e.slot each.0.slot ds es each.1 slots.0, slots_same see ds es each.1 slots.1)

pub recorded_same : {P : Type 0} (see : P → Seen) (config : Config) (ds es : List (Disk P)) → Each IsSameDisk (map (disk_seen see) ds) (map (disk_seen see) es) → AreRecorded config ds → AreRecorded config es
recorded_same see config [] [] each all = tt
recorded_same see config [] (e ∷ es) each all = absurd each
recorded_same see config (d ∷ ds) [] each all = absurd each
recorded_same see config (d ∷ ds) (e ∷ es) each all = (ap (λ n. list_any (λ (r : Record). r.slot == n) config.disks) each.0.slot ∙ all.0, recorded_same see config ds es each.1 all.1)

module _ {P : Type 0} {ghosts : Ghosts P} (see : P → Seen) (alike : (p q : P) → is_some (see p).told ≡ is_some (see q).told) where
  abbrev behind_of : Public P ghosts → List Seen
  behind_of p = still_pieces see p ++ lent_pieces see p

  pub lent_same : (p q : Public P ghosts) → q.running ≡ p.running → q.stuck.items ≡ p.stuck.items → lent_pieces see q ≡ lent_pieces see p
  lent_same p q running stuck =
      ap (λ (rs : BTreeMap Word (Running P ghosts)). flat_map (running_pieces see) rs.entries ++ flat_map (stuck_pieces see) q.stuck.items) running
      ∙ ap (λ (rs : List (Running P ghosts)). flat_map (running_pieces see) p.running.entries ++ flat_map (stuck_pieces see) rs) stuck

  -- ---- the pieces that lie still were moved

  module _ (old : Imported P ghosts) (public : Public P ghosts) (kept : IsGroupKept see old) (still : SameSectors (still_pieces see old.public) (still_pieces see public))
      (running : public.running ≡ old.public.running) (stuck : public.stuck.items ≡ old.public.stuck.items) where
    abbrev pub mid : Imported P ghosts
    mid = record old { public = public }

    together : SameSectors (behind_of old.public) (behind_of public)
    together = subst (λ ls. SameSectors (behind_of old.public) (still_pieces see public ++ ls)) (sym (lent_same old.public public running stuck)) (same_beside (lent_pieces see old.public) _ _ still)

    moved_wholes : whole_members see mid ≡ whole_members see old
    moved_wholes = wholes_stay see alike old.base.disks.items (behind_of old.public) (behind_of public) kept.whole.parted together

    moved_kept : IsGroupKept see mid
    moved_kept = record {
      named = kept.named;
      text = kept.text;
      first = kept.first;
      carries = kept.carries;
      sized = subst AreSized (sym moved_wholes) kept.sized;
      slots = kept.slots;
      recorded = kept.recorded;
      whole = record {
        parted = parted_stay (members see old.base) (behind_of old.public) (behind_of public) together kept.whole.parted;
        volumes = subst (λ (rs : BTreeMap Word (Running P ghosts)). AreRunningVolumes see rs.entries) (sym running) kept.whole.volumes;
        stuck = subst (AreStuckVolumes see) (sym stuck) kept.whole.stuck;
      };
      placed = subst (λ (rs : BTreeMap Word (Running P ghosts)). AllInPlace see (members see old.base) old.config (good_mask (members see old.base)) rs.entries) (sym running) kept.placed;
    }

    pub moved : PartsGroup see old mid
    moved = record {
      config = refl;
      base = refl;
      disks = disks_self (members see old.base);
      running = running;
      stuck = stuck;
      holders = ap (map holder_in) moved_wholes;
      group = refl;
      kept = moved_kept;
    }

  -- nothing was done
  pub parts_self : (g : Imported P ghosts) → IsGroupKept see g → PartsGroup see g g
  parts_self g kept = moved g g.public kept (same_refl (still_pieces see g.public)) refl refl

  -- ---- the devices were parted, with nothing left beside the pool

  module _ (ends : (p : P) → EndsThere (see p)) (counts : (p : P) → AreCounts (see p)) (old new : Imported P ghosts) (kept : IsGroupKept see old)
      (config : new.config ≡ old.config) (base : new.base ≡ record old.base { disks = new.base.disks }) (running : new.public.running ≡ old.public.running) (stuck : new.public.stuck.items ≡ old.public.stuck.items)
      (left : old.public.left.items ≡ []) (left' : new.public.left.items ≡ []) (alive : IsGroup see old.base → IsGroup see new.base)
      (re : Reparts (members see old.base) (members see new.base) (map see old.public.pool.items.items) (map see new.public.pool.items.items)) where
    abbrev hs : List DiskSeen
    hs = members see old.base

    abbrev ks : List DiskSeen
    ks = members see new.base

    abbrev still : List Seen
    still = map see old.public.pool.items.items

    abbrev still' : List Seen
    still' = map see new.public.pool.items.items

    abbrev lent : List Seen
    lent = lent_pieces see old.public

    pool_alone : (p : Public P ghosts) → p.left.items ≡ [] → still_pieces see p ≡ map see p.pool.items.items
    pool_alone p none = ap (λ rs. map see p.pool.items.items ++ flat_map (remaining_pieces see) rs) none ∙ append-nil (map see p.pool.items.items)

    behind_was : behind_of old.public ≡ still ++ lent
    behind_was = ap (λ ps. ps ++ lent) (pool_alone old.public left)

    behind_is : behind_of new.public ≡ still' ++ lent
    behind_is = ap (λ ps. ps ++ lent_pieces see new.public) (pool_alone new.public left') ∙ ap (λ ps. still' ++ ps) (lent_same old.public new.public running stuck)

    parted : AreParted hs (still ++ lent)
    parted = subst (AreParted hs) behind_was kept.whole.parted

    re_all : Reparts hs ks (still ++ lent) (still' ++ lent)
    re_all = record { disks = re.disks; pieces = around (fronts_of hs) (fronts_of ks) re.pieces }
      where
        grouped : (xs ys zs : List Seen) → (xs ++ ys) ++ zs ≡ xs ++ (ys ++ zs)
        grouped xs ys zs = simp append_assoc

        around : (fs gs : List Seen) → SameSectors (fs ++ still) (gs ++ still') → SameSectors (fs ++ (still ++ lent)) (gs ++ (still' ++ lent))
        around fs gs same = subst (λ ps. SameSectors ps (gs ++ (still' ++ lent))) (grouped fs still lent) (subst (SameSectors ((fs ++ still) ++ lent)) (grouped gs still' lent) (same_beside lent (fs ++ still) (gs ++ still') same))

    same : AreSameWhole [] hs ks (still ++ lent) (still' ++ lent)
    same = same_alone see ends counts old.base.disks.items new.base.disks.items (still ++ lent) (still' ++ lent) parted re_all

    parted_new : AreParted ks (behind_of new.public)
    parted_new = subst (AreParted ks) (sym behind_is) (subst (AreParted ks) (append-nil (still' ++ lent)) same.parted)

    wholes : whole_members see new ≡ whole_members see old
    wholes =
        ap (λ ps. whole_disks (rests_of ps []) ks) behind_is
        ∙ same_whole see alike (rests_of (still ++ lent) []) (rests_of (still' ++ lent) []) old.base.disks.items new.base.disks.items same.counts same.whole
        ∙ ap (λ ps. whole_disks (rests_of ps []) hs) (sym behind_was)

    told : Each IsSameTold hs ks
    told = each_told see alike old.base.disks.items new.base.disks.items re.disks

    name_is : new.base.name ≡ old.base.name
    name_is = ap (λ (b : Group P). b.name) base

    text_is : text_of new.base.text ≡ text_of old.base.text
    text_is = ap (λ (b : Group P). text_of b.text) base

    lost_is : new.base.lost ≡ old.base.lost
    lost_is = ap (λ (b : Group P). b.lost) base

    sequence_is : new.base.sequence ≡ old.base.sequence
    sequence_is = ap (λ (b : Group P). b.sequence) base

    alive_new : IsAlive see new.base
    alive_new =
        let now : IsGroup see new.base = alive (subst (λ (l : Option Lost). MatchOption l (IsAlive see old.base) (λ x. AllOf HasSlot hs)) (sym kept.carries.lost) kept.carries.alive) in
        subst (λ (l : Option Lost). MatchOption l (IsAlive see new.base) (λ x. AllOf HasSlot ks)) (lost_is ∙ kept.carries.lost) now

    carries_new : CarriesText see kept.first (text_of new.base.text) new.base
    carries_new = record {
      lost = lost_is ∙ kept.carries.lost;
      holds = refl;
      offers = rw (sequence_is, text_is) (offers_still old.base.sequence (text_of old.base.text) hs ks told kept.carries.offers);
      gives = rw (sequence_is, text_is, name_is) (gives_still old.base.name kept.first old.base.sequence (text_of old.base.text) hs ks told kept.carries.gives);
      alive = alive_new;
    }

    kept_new : IsGroupKept see new
    kept_new = record {
      named = name_is ∙ kept.named ∙ ap (λ (c : Config). c.group) (sym config);
      text = subst (λ t. IsTextOf new.config t) (sym text_is) (subst (λ c. IsTextOf c (text_of old.base.text)) (sym config) kept.text);
      first = kept.first;
      carries = carries_new;
      sized = subst AreSized (sym wholes) kept.sized;
      slots = slots_same see old.base.disks.items new.base.disks.items re.disks kept.slots;
      recorded = recorded_same see new.config old.base.disks.items new.base.disks.items re.disks (subst (λ c. AreRecorded c old.base.disks.items) (sym config) kept.recorded);
      whole = record {
        parted = parted_new;
        volumes = subst (λ (rs : BTreeMap Word (Running P ghosts)). AreRunningVolumes see rs.entries) (sym running) kept.whole.volumes;
        stuck = subst (AreStuckVolumes see) (sym stuck) kept.whole.stuck;
      };
      placed =
          subst (λ (rs : BTreeMap Word (Running P ghosts)). AllInPlace see ks new.config (good_mask ks) rs.entries) (sym running)
          (subst (λ c. AllInPlace see ks c (good_mask ks) old.public.running.entries) (sym config)
          (subst (λ n. AllInPlace see ks old.config n old.public.running.entries) (sym (mask_same hs ks told))
          (all_moved see hs ks (disks_of hs ks re.disks) old.config (good_mask hs) old.public.running.entries kept.placed)));
    }

    pub parted_otherwise : PartsGroup see old new
    parted_otherwise = record {
      config = config;
      base = base;
      disks = re.disks;
      running = running;
      stuck = stuck;
      holders = ap (map holder_in) wholes;
      group = group_same see old new config base re.disks;
      kept = kept_new;
    }

  -- ---- one after the other

  pub parts_on : (old between new : Imported P ghosts) → between.base ≡ old.base → PartsGroup see old between → PartsGroup see between new → PartsGroup see old new
  parts_on old between new same one two = record {
    config = two.config ∙ one.config;
    base = two.base ∙ ap (λ (b : Group P). record b { disks = new.base.disks }) same;
    disks = subst (λ b. Each IsSameDisk (members see b) (members see new.base)) same two.disks;
    running = two.running ∙ one.running;
    stuck = two.stuck ∙ one.stuck;
    holders = two.holders ∙ one.holders;
    group = two.group ∙ one.group;
    kept = two.kept;
  }

  -- .. where the second one leaves the devices as they are
  pub parts_then : (old between new : Imported P ghosts) → new.base ≡ between.base → PartsGroup see old between → PartsGroup see between new → PartsGroup see old new
  parts_then old between new same one two = record {
    config = two.config ∙ one.config;
    base = same ∙ one.base ∙ ap (λ (b : Group P). record old.base { disks = b.disks }) (sym same);
    disks = subst (λ b. Each IsSameDisk (members see old.base) (members see b)) (sym same) one.disks;
    running = two.running ∙ one.running;
    stuck = two.stuck ∙ one.stuck;
    holders = two.holders ∙ one.holders;
    group = two.group ∙ one.group;
    kept = two.kept;
  }

  -- ---- as the functions do it

  -- what is left was put back so far as there was room
  pub put_back : (old : Imported P ghosts) (public : Public P ghosts) → IsGroupKept see old → SameSectors (still_pieces see old.public) (still_pieces see public) → public.running ≡ old.public.running → public.stuck ≡ old.public.stuck →
      PartsGroup see old (record old { public = public })
  put_back old public kept still running stuck = moved old public kept still running (ap (λ (s : Vec (Running P ghosts)). s.items) stuck)

  -- .. and then the devices were parted, so far as there was memory
  pub put_and_parted : ((p : P) → EndsThere (see p)) → ((p : P) → AreCounts (see p)) → (old : Imported P ghosts) (public : Public P ghosts) (base : Group P) (pool : Pool P) → IsGroupKept see old →
      SameSectors (still_pieces see old.public) (still_pieces see public) → public.running ≡ old.public.running → public.stuck ≡ old.public.stuck → public.left.items ≡ [] →
      base ≡ record old.base { disks = base.disks } → (IsGroup see old.base → IsGroup see base) →
      Reparts (members see old.base) (members see base) (map see public.pool.items.items) (map see pool.items.items) →
      PartsGroup see old (record old { base = base; public = record public { pool = pool } })
  put_and_parted ends counts old public base pool kept still running stuck left base_is alive re =
      let between : Imported P ghosts = record old { public = public } in
      let one = put_back old public kept still running stuck in
      parts_on old between (record old { base = base; public = record public { pool = pool } }) refl one
      (parted_otherwise ends counts between (record old { base = base; public = record public { pool = pool } }) one.kept refl base_is refl refl left left alive re)

  -- a place was made for a volume that could not be put back
  pub place_made : (old between : Imported P ghosts) (stuck : Vec (Running P ghosts)) → PartsGroup see old between → stuck.items ≡ between.public.stuck.items → PartsGroup see old (record between { public = record between.public { stuck = stuck } })
  place_made old between stuck parts same =
      parts_then old between (record between { public = record between.public { stuck = stuck } }) refl parts
      (moved between (record between.public { stuck = stuck }) parts.kept (same_refl (still_pieces see between.public)) refl same)
