-- A plex whose subdisks and disks are the same lies where it lay.
use Rattle.std.proofs.Common.{◌≡◌, ℕ, zero, suc, ◌+◌, ◌<◌, ◌≤◌, Bool, true, false, cond, not, Option, Some, None, List, [], ◌∷◌, ◌++◌, length, refl, sym, ◌∙◌, ap, subst, inl, inr, arith}
use Rattle.std.specs.Prelude.{◌&&◌, ◌||◌, ◌==◌, nat_le}
use Rattle.std.specs.List.{filter, find, count_by, list_all}
use Rattle.std.specs.Str.{bytes_eq}
use Rattle.std.proofs.lemmas.Bool.{false≢true, and_parts, and_from, leb-true, le-leb, eqb-true, false_from_ne_true}
use Rattle.std.proofs.lemmas.List.Sums.{count_by-le-length}
use Rattle.vx_base.specs.Named.{Word}
use Rattle.vx_base.proofs.NamedLemmas.{bytes_eq_self}
use Rattle.vx_mask.specs.Mask.{has}
use Rattle.vx_config_parts.specs.declared.disk.Disk.{Disk}
use Rattle.vx_config_parts.specs.declared.plex.Plex.{Plex}
use Rattle.vx_config_parts.specs.declared.subdisk.Subdisk.{Subdisk}
use Rattle.vx_config_parts.specs.Objects.{refers}
use Rattle.vx_rules.specs.Columns.{is_in_column}
use Rattle.vx_objects.specs.declared.config.Config.{Config}
use Rattle.vx_image.specs.Lies.{columns_from, slot_of, strip_of, strip_then, strips_from}
use Rattle.vx_image.proofs.PlexMembers.{IsIn, all_in, count_some}
use Rattle.vx_image.proofs.Plexes.{config_valid, filled, on_disk}
use Rattle.vx_image.specs.Bytes.{is_held}
use Rattle.vx_lending.proofs.Bits.{kept}
use Rattle.vx_lending.proofs.Distinct.{filtered}
use Rattle.vx_group_edits.proofs.Lists.{all_each, count_less, filter_short, find_narrow, found_in}

-- the subdisks of a plex
abbrev pub subdisks_of : Config → Word → List Subdisk
subdisks_of c name = filter (λ s. refers s.plex name) c.subdisks

-- the piece begins there or later
abbrev is_from : Word → ℕ → ℕ → Subdisk → Bool
is_from name col at s = is_in_column name col s && nat_le at s.at

-- ---- slots

-- a disk that is there has its slot, whatever disks stand behind
slot_stays : (ds more : List Disk) (d : Disk) → IsIn ds d → slot_of (ds ++ more) d.name ≡ slot_of ds d.name
slot_stays [] more d there = absurd there
slot_stays (e ∷ ds) more d there = by (λ m. slot_stays ds more d m) (bytes_eq e.name d.name) refl there
  where
    by : (IsIn ds d → slot_of (ds ++ more) d.name ≡ slot_of ds d.name) → (b : Bool) → bytes_eq e.name d.name ≡ b → IsIn (e ∷ ds) d → cond b e.slot (slot_of (ds ++ more) d.name) ≡ cond b e.slot (slot_of ds d.name)
    by on true is there = refl
    by on false is (inl same) = absurd (false≢true (sym is ∙ subst (λ x. bytes_eq x.name d.name ≡ true) same (bytes_eq_self d.name)))
    by on false is (inr there) = on there

module _ (c c' : Config) (more : List Disk) (disks : c'.disks ≡ c.disks ++ more) where
  pub slot_same : (s : Subdisk) → IsIn c.subdisks s → slot_of c'.disks s.disk ≡ slot_of c.disks s.disk
  slot_same s there =
      let d = on_disk c (config_valid c) s there in
      ap (λ ds. slot_of ds s.disk) disks ∙ subst (λ n. slot_of (c.disks ++ more) n ≡ slot_of c.disks n) d.named (slot_stays c.disks more d.disk d.there)

  strip_same : (s : Subdisk) → IsIn c.subdisks s → strip_of c'.disks s ≡ strip_of c.disks s
  strip_same s there = ap (λ (n : ℕ). record { disk = n; start = s.off; count = s.len }) (slot_same s there)

  module _ (name : Word) (same : subdisks_of c' name ≡ subdisks_of c name) where
    -- ---- strips

    abbrev begins_at : ℕ → ℕ → Subdisk → Bool
    begins_at col at s = is_in_column name col s && s.at == at

    narrow : (col at : ℕ) (s : Subdisk) → begins_at col at s ≡ true → refers s.plex name ≡ true
    narrow col at s h = (and_parts (refers s.plex name) (s.col == col) (and_parts (is_in_column name col s) (s.at == at) h).0).0

    found_same : (col at : ℕ) → find (begins_at col at) c'.subdisks ≡ find (begins_at col at) c.subdisks
    found_same col at =
        find_narrow (begins_at col at) (λ s. refers s.plex name) (narrow col at) c'.subdisks
        ∙ ap (λ ss. find (begins_at col at) ss) same
        ∙ sym (find_narrow (begins_at col at) (λ s. refers s.plex name) (narrow col at) c.subdisks)

    later : (col a b : ℕ) (s : Subdisk) → a ≤ b → is_from name col b s ≡ true → is_from name col a s ≡ true
    later col a b s le h =
        let parts = and_parts (is_in_column name col s) (nat_le b s.at) h in
        let from = leb-true b s.at parts.1 in
        and_from _ _ parts.0 (le-leb a s.at (omega (arith, le, from)))

    passed : (col at : ℕ) (s : Subdisk) → s.at < at → is_from name col at s ≡ false
    passed col at s lt = false_from_ne_true _ (λ h. let from = leb-true at s.at (and_parts (is_in_column name col s) (nat_le at s.at) h).1 in omega (arith, lt, from))

    abbrev own : List Subdisk
    own = subdisks_of c name

    -- the piece that begins there is counted
    counted : (col at : ℕ) (s : Subdisk) → find (begins_at col at) c.subdisks ≡ Some s → IsIn own s × (is_from name col at s ≡ true) × (s.at ≡ at) × IsIn c.subdisks s
    counted col at s e =
        let r = found_in (begins_at col at) c.subdisks s e in
        let parts = and_parts (is_in_column name col s) (s.at == at) r.1 in
        let is : s.at ≡ at = eqb-true s.at at parts.1 in
        (kept (λ s. refers s.plex name) c.subdisks s r.0 (narrow col at s r.1), and_from _ _ parts.0 (le-leb at s.at (omega (arith, is))), is, r.0)

    nothing_found : (col at : ℕ) → count_by (is_from name col at) own ≤ 0 → (f : Option Subdisk) → find (begins_at col at) c.subdisks ≡ f → f ≡ None
    nothing_found col at few None e = refl
    nothing_found col at few (Some s) e =
        let r = counted col at s e in
        let some = count_some (is_from name col at) own s r.0 r.1 in
        absurd (omega (arith, some, few))

    -- behind the piece that begins there are fewer
    fewer : (col at : ℕ) (s : Subdisk) → find (begins_at col at) c.subdisks ≡ Some s → count_by (is_from name col (s.at + s.len)) own + 1 ≤ count_by (is_from name col at) own
    fewer col at s e =
        let r = counted col at s e in
        let is = r.2 in
        let len = filled c (config_valid c) s r.3 in
        count_less (is_from name col (s.at + s.len)) (is_from name col at) own s (λ y h. later col at (s.at + s.len) y (omega (arith, is)) h) r.0 (passed col (s.at + s.len) s (omega (arith, len))) r.1

    strips_same : (n m col at : ℕ) → count_by (is_from name col at) own ≤ n → count_by (is_from name col at) own ≤ m → strips_from n c' name col at ≡ strips_from m c name col at
    strips_same zero zero col at few few' = refl
    strips_same zero (suc m) col at few few' =
        sym (ap (λ f. strip_then c.disks f (λ next. strips_from m c name col next)) (nothing_found col at few (find (begins_at col at) c.subdisks) refl))
    strips_same (suc n) zero col at few few' =
        ap (λ f. strip_then c'.disks f (λ next. strips_from n c' name col next)) (found_same col at ∙ nothing_found col at few' (find (begins_at col at) c.subdisks) refl)
    strips_same (suc n) (suc m) col at few few' =
        ap (λ f. strip_then c'.disks f (λ next. strips_from n c' name col next)) (found_same col at)
        ∙ by (λ s e. strips_same n m col (s.at + s.len) (less n few s e) (less m few' s e)) (find (begins_at col at) c.subdisks) refl
      where
        less : (k : ℕ) → count_by (is_from name col at) own ≤ suc k → (s : Subdisk) → find (begins_at col at) c.subdisks ≡ Some s → count_by (is_from name col (s.at + s.len)) own ≤ k
        less k few s e = let r = fewer col at s e in omega (arith, r, few)

        by : ((s : Subdisk) → find (begins_at col at) c.subdisks ≡ Some s → strips_from n c' name col (s.at + s.len) ≡ strips_from m c name col (s.at + s.len)) → (f : Option Subdisk) → find (begins_at col at) c.subdisks ≡ f →
            strip_then c'.disks f (λ next. strips_from n c' name col next) ≡ strip_then c.disks f (λ next. strips_from m c name col next)
        by on None e = refl
        by on (Some s) e =
            let first = strip_same s (counted col at s e).3 in
            let rest = on s e in
            λ i. first i ∷ rest i

    short : length own ≤ length c.subdisks
    short = filter_short (λ s. refers s.plex name) c.subdisks

    short' : length own ≤ length c'.subdisks
    short' = subst (λ ss. length ss ≤ length c'.subdisks) same (filter_short (λ s. refers s.plex name) c'.subdisks)

    column_same : (col : ℕ) → strips_from (length c'.subdisks) c' name col 0 ≡ strips_from (length c.subdisks) c name col 0
    column_same col =
        let few = count_by-le-length (is_from name col 0) own in
        let a = short in
        let b = short' in
        strips_same (length c'.subdisks) (length c.subdisks) col 0 (omega (arith, few, b)) (omega (arith, few, a))

    pub columns_same : (n col : ℕ) → columns_from n c' name col ≡ columns_from n c name col
    columns_same zero col = refl
    columns_same (suc n) col =
        let first = column_same col in
        let rest = columns_same n (col + 1) in
        λ i. first i ∷ rest i

    -- ---- disks

    -- where its disks are good now they were before
    module _ (good good' : ℕ) (failed : (s : Subdisk) → IsIn c.subdisks s → has good' (slot_of c.disks s.disk) ≡ true → has good (slot_of c.disks s.disk) ≡ true) where
      abbrev is_good : Config → ℕ → Subdisk → Bool
      is_good x g s = not (refers s.plex name) || has g (slot_of x.disks s.disk)

      each_held : (p : Plex) → p.name ≡ name → is_held c' good' p ≡ true → (s : Subdisk) → IsIn c.subdisks s → is_good c good s ≡ true
      each_held p is held s there = by (refers s.plex name) refl
        where
          by : (b : Bool) → refers s.plex name ≡ b → (not b || has good (slot_of c.disks s.disk)) ≡ true
          by false e = refl
          by true e =
              let one = filtered (λ s. refers s.plex name) c'.subdisks s (subst (λ ss. IsIn ss s) (sym same) (kept (λ s. refers s.plex name) c.subdisks s there e)) in
              let all = subst (λ n. not (refers s.plex n) || has good' (slot_of c'.disks s.disk) ≡ true) is (all_in (λ s. not (refers s.plex p.name) || has good' (slot_of c'.disks s.disk)) c'.subdisks s held one.0) in
              let now : has good' (slot_of c'.disks s.disk) ≡ true = subst (λ b. (not b || has good' (slot_of c'.disks s.disk)) ≡ true) e all in
              failed s there (subst (λ n. has good' n ≡ true) (slot_same s there) now)

      pub held_before : (p : Plex) → p.name ≡ name → is_held c' good' p ≡ true → is_held c good p ≡ true
      held_before p is held = subst (λ n. list_all (λ s. not (refers s.plex n) || has good (slot_of c.disks s.disk)) c.subdisks ≡ true) (sym is) (all_each (is_good c good) c.subdisks (each_held p is held))
