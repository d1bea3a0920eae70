-- How far the commits of volumes come, one name after the other, and how long their longest text is.
use Rattle.std.proofs.Common.{◌≡◌, ◌∙◌, ◌⊎◌, ℕ, max, ◌<◌, ◌≤◌, Option, Some, None, inl, inr, List, [], ◌∷◌, ◌++◌, length, refl, sym, ap, subst, arith, append-nil, append_assoc}
use Rattle.std.specs.Prelude.{MatchOption}
use Rattle.std.specs.List.{Contains}
use Rattle.std.proofs.lemmas.Bool.{cases_order}
use Rattle.std.proofs.lemmas.List.Elements.{Contains-append_left, Contains-push, Contains-push_cases}
use Rattle.vx_base.specs.Named.{Word}
use Rattle.vx_config_parts.specs.declared.state.VolState.{VolState}
use Rattle.vx_config_parts.specs.declared.state.VolState.TheVariants as vol
use Rattle.vx_config_parts.specs.declared.vol.Vol.{Vol}
use Rattle.vx_objects.specs.declared.config.Config.{Config}
use Rattle.vx_objects.specs.Applied.{IsEdited}
use Rattle.vx_moments.specs.Copies.{IsTextOf}
use Rattle.vx_stages.specs.Tests.{volume_in}
use Rattle.vx_state_edits.specs.Edits.{recovered_edits, start_edits}
use Rattle.vx_state_texts.proofs.Sizes.{text_size}
use Rattle.vx_recovery.specs.Edits.{AreCommits, AreOfState, AreRecovered, AreStarted, IsLongest}
use Rattle.vx_recovery.specs.Going.{need_by}
use Rattle.vx_stage_recovery.specs.Texts.{HasLength, IsLongestOf, IsReachedBy, IsReachedFrom, IsReachedIn, IsReachedOf, IsReachedTwice, config_by, config_of}
use Rattle.vx_stage_recovery.specs.declared.texts.Reached.{Reached}

-- ---- the longest text

-- the number is that of the longest text of these configurations, or there is none
abbrev pub IsMost : List Config → ℕ → Type 0
IsMost cs bytes = ((cs ≡ []) × (bytes ≡ 0)) ⊎ IsLongest cs bytes

-- all texts of a configuration are equally long
pub same_length : (c : Config) (text other : List ℕ) → IsTextOf c text → IsTextOf c other → length text ≡ length other
same_length c text other is same = text_size c text is ∙ sym (text_size c other same)

none_within : (cs : List Config) (c : Config) → cs ≡ [] → Contains cs c → ⊥
none_within cs c none (k, within, is) = let long : length cs ≡ 0 = ap length none in omega (arith, within, long)

-- no text is longer
pub at_most : (cs : List Config) (most : ℕ) → IsMost cs most → (c : Config) (text : List ℕ) → Contains cs c → IsTextOf c text → length text ≤ most
at_most cs most (inl (none, zero_is)) c text within printed = absurd (none_within cs c none within)
at_most cs most (inr l) c text within printed = l.most c text within printed

-- with one more
pub with_one : (cs : List Config) (most bytes : ℕ) (next : Config) → IsMost cs most → HasLength next bytes → IsMost (cs ++ next ∷ []) (max most bytes)
with_one cs most bytes next is (text, printed, has) = inr (record { one = one; most = all })
  where
    new_one : most ≤ bytes → (c : Config) × (t : List ℕ) × Contains (cs ++ next ∷ []) c × IsTextOf c t × (length t ≡ max most bytes)
    new_one below = (next, text, Contains-push cs next, printed, omega (arith, has, below))

    old_one : bytes < most → IsMost cs most → (c : Config) × (t : List ℕ) × Contains (cs ++ next ∷ []) c × IsTextOf c t × (length t ≡ max most bytes)
    old_one above (inl (none, zero_is)) = absurd (omega (arith, above, zero_is))
    old_one above (inr l) = let (c, t, within, is_text, long) = l.one in (c, t, Contains-append_left cs (next ∷ []) c within, is_text, omega (arith, long, above))

    one : (c : Config) × (t : List ℕ) × Contains (cs ++ next ∷ []) c × IsTextOf c t × (length t ≡ max most bytes)
    one = elim (cases_order most bytes) [
      | inl same ↦ new_one (omega (arith, same))
      | inr order ↦ elim order [ inl below ↦ new_one (omega (arith, below)) | inr above ↦ old_one above is ]
    ]

    all : (c : Config) (t : List ℕ) → Contains (cs ++ next ∷ []) c → IsTextOf c t → length t ≤ max most bytes
    all c t within is_text = elim (Contains-push_cases cs next c within) [
      | inl before ↦ omega (arith, at_most cs most is c t before is_text)
      | inr same ↦ omega (arith, same_length c t text is_text (subst (λ x. IsTextOf x text) same printed), has)
    ]

-- ---- one more name

-- with these more configurations the commits are whole, and the longest text is known
pub record Adds (Whole : List Config → Type 0) (left : List Word) (c : Config) (old new : Reached) : Type 0 where
  pub more : List Config
  pub goes : (rest : List Config) → AreCommits left (config_of c new) rest → Whole (more ++ rest)
  pub most : (so_far : List Config) → IsMost so_far old.most → IsMost (so_far ++ more) new.most

module _ (left : List Word) (c : Config) (old new : Reached) where
  abbrev now : Config
  now = config_of c old

  stays : new ≡ old → Adds (AreCommits left now) left c old new
  stays same = record {
    more = [];
    goes = λ rest are. subst (λ r. AreCommits left (config_of c r) rest) same are;
    most = λ so_far is. subst (λ cs. IsMost cs new.most) (sym (append-nil so_far)) (subst (λ r. IsMost so_far r.most) (sym same) is);
  }

  started : (v : Vol) → IsReachedFrom (start_edits now v) now old.most new → Adds (AreStarted v (AreCommits left) now) left c old new
  started v is = record {
    more = is.next ∷ [];
    goes = λ rest are. (is.next, rest, refl, is.edited, subst (λ x. AreCommits left x rest) (ap (config_by c) is.config_is) are);
    most = λ so_far most. subst (IsMost (so_far ++ is.next ∷ [])) (sym is.most_is) (with_one so_far old.most is.bytes is.next most is.has);
  }

  healed : (v : Vol) → IsReachedTwice now v old.most new → Adds (AreRecovered v (AreCommits left) now) left c old new
  healed v (mid, first, second) = record {
    more = first.next ∷ second.next ∷ [];
    goes = λ rest are. (first.next, second.next, rest, refl, first.edited, edited, subst (λ x. AreCommits left x rest) (ap (config_by c) second.config_is) are);
    most = λ so_far most. subst (λ cs. IsMost cs new.most) (append_assoc so_far (first.next ∷ []) (second.next ∷ [])) (both so_far most);
  }
    where
      edited : IsEdited (recovered_edits first.next (record v { state = vol.Sync }) 0) first.next second.next
      edited = subst (λ x. IsEdited (recovered_edits x (record v { state = vol.Sync }) 0) x second.next) (ap (config_by now) first.config_is) second.edited

      once : (so_far : List Config) → IsMost so_far old.most → IsMost (so_far ++ first.next ∷ []) mid.most
      once so_far most = subst (IsMost (so_far ++ first.next ∷ [])) (sym first.most_is) (with_one so_far old.most first.bytes first.next most first.has)

      both : (so_far : List Config) → IsMost so_far old.most → IsMost ((so_far ++ first.next ∷ []) ++ second.next ∷ []) new.most
      both so_far most = subst (IsMost ((so_far ++ first.next ∷ []) ++ second.next ∷ [])) (sym second.most_is) (with_one (so_far ++ first.next ∷ []) mid.most second.bytes second.next (once so_far most) second.has)

  by_state : (v : Vol) (s : VolState) → IsReachedOf (need_by s) now v old new → Adds (AreOfState s v (AreCommits left) now) left c old new
  by_state v vol.Empty is = stays is
  by_state v vol.Clean is = started v is
  by_state v vol.Active is = stays is
  by_state v vol.NeedSync is = healed v is
  by_state v vol.Sync is = healed v is

  found : (o : Option Vol) → IsReachedIn o now old new → Adds (λ cs. MatchOption o (AreCommits left now cs) (λ v. AreOfState v.state v (AreCommits left) now cs)) left c old new
  found None is = stays is
  found (Some v) is = by_state v v.state is

  pub adds : (name : Word) → IsReachedBy name c old new → Adds (AreCommits (name ∷ left) now) left c old new
  adds name is = found (volume_in name now.volumes) is

-- ---- all names

-- Whatever the commits of the names that are left record, from the configuration that was reached: those of all names are these behind the ones so far.
pub record IsSoFar (names left : List Word) (c : Config) (reached : Reached) : Type 0 where
  pub so_far : List Config
  pub goes : (rest : List Config) → AreCommits left (config_of c reached) rest → AreCommits names c (so_far ++ rest)
  pub most : IsMost so_far reached.most

pub begun : (names : List Word) (c : Config) → IsSoFar names names c (record { config = None; most = 0 })
begun names c = record { so_far = []; goes = λ rest are. are; most = inl (refl, refl) }

pub one_more : (names left : List Word) (name : Word) (c : Config) (old new : Reached) → IsSoFar names (name ∷ left) c old → IsReachedBy name c old new → IsSoFar names left c new
one_more names left name c old new is by =
    let adds : Adds (AreCommits (name ∷ left) (config_of c old)) left c old new = adds left c old new name by in
    record {
      so_far = is.so_far ++ adds.more;
      goes = λ rest are. subst (AreCommits names c) (sym (append_assoc is.so_far adds.more rest)) (is.goes (adds.more ++ rest) (adds.goes rest are));
      most = adds.most is.so_far is.most;
    }

pub done : (names : List Word) (c : Config) (reached : Reached) → IsSoFar names [] c reached → IsLongestOf names c reached.most
done names c reached is = (is.so_far, subst (AreCommits names c) (append-nil is.so_far) (is.goes [] refl), is.most)
