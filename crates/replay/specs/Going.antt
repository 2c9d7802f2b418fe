-- What the loop of the replay program keeps from turn to turn.
use Rattle.std.specs.Prelude.{◌≡◌, refl, List, ℕ, ◌+◌, ◌-◌, ◌≤◌, min, length, take, drop}
use Rattle.std.proofs.Common.{◌∙◌, subst, arith, length-take}
use borrow.Rule.Slice.PartMut.{put_mid, take_put}
use Rattle.laws.specs.Parts.{cut}
use Rattle.day.specs.declared.onward.Onward.{Onward}
use Rattle.day.specs.declared.onward.Onward.TheVariants.{Answered, Wants}
use Rattle.day.specs.Onwards.{WindowReady, WindowKept, Answering, Reading, OnwardTold, Onwards}

-- a piece was read behind the first n bytes, which stay
pub record More (s : List ℕ) (n r : ℕ) (s' : List ℕ) : Type 0 where
  pub order : n ≤ r
  pub within : r ≤ length s'
  pub size : length s' ≡ length s
  pub front : cut s' 0 n ≡ cut s 0 n

pub more_read : (s ys : List ℕ) (n m k : ℕ) → n ≤ length s → length (put_mid n k s ys) ≡ length s → m ≤ length (take (length (put_mid n k s ys) - n) (drop n (put_mid n k s ys))) → More s n (n + m) (put_mid n k s ys)
unfolding cut
more_read s ys n m k h e l =
    let a : length (take (length (put_mid n k s ys) - n) (drop n (put_mid n k s ys))) ≡ min (length (put_mid n k s ys) - n) (length (drop n (put_mid n k s ys))) = length-take _ _ in
    record { order = omega arith; within = omega (arith, l, a, e, h); size = e; front = take_put n k s ys h }

-- ---- the loop

-- what a turn begins with, and what the first one began with
pub record Going (s : List ℕ) (at n : ℕ) (area out shown s₀ area₀ out₀ shown₀ : List ℕ) : Type 0 where
  pub ready : WindowReady s at n area out shown
  pub kept : WindowKept s₀ area₀ out₀ shown₀ s area out shown

pub going_starts : {s area out shown : List ℕ} → WindowReady s 0 0 area out shown → Going s 0 0 area out shown s area out shown
going_starts r = record { ready = r; kept = record { window = refl; size = refl; lent = refl; shows = refl } }

-- a turn changes no length
module _ {s area out shown s₀ area₀ out₀ shown₀ : List ℕ} {at n : ℕ} (g : Going s at n area out shown s₀ area₀ out₀ shown₀) {s' area' out' shown' : List ℕ} {r : Onward} (w : Onwards s at n area out shown s' area' out' shown' r) where
  both : WindowKept s₀ area₀ out₀ shown₀ s' area' out' shown'
  both = record {
    window = w.kept.window ∙ g.kept.window;
    size = w.kept.size ∙ g.kept.size;
    lent = w.kept.lent ∙ g.kept.lent;
    shows = w.kept.shows ∙ g.kept.shows;
  }

  again : (at' n' : ℕ) → at' ≤ n' → n' ≤ length s' → WindowReady s' at' n' area' out' shown'
  again at' n' h l = record {
    order = h;
    within = l;
    wide = rw w.kept.window g.ready.wide;
    narrow = rw w.kept.window g.ready.narrow;
    long = rw w.kept.size g.ready.long;
    print = rw (w.kept.lent, w.kept.shows) g.ready.print;
  }

  module _ (next p : ℕ) (e : r ≡ Answered next p) where
    answering : Answering s at n next p area out s' area' shown'
    answering = subst (OnwardTold s at n area out s' area' shown') e w.told

    pub print_fits : p ≤ length shown'
    print_fits = answering.fits

    pub going_answered : Going s' next n area' out' shown' s₀ area₀ out₀ shown₀
    going_answered = record { ready = again next n answering.within (rw w.kept.window g.ready.within); kept = both }

  module _ (left : ℕ) (e : r ≡ Wants left) where
    reading : Reading s at n left area out s' area'
    reading = subst (OnwardTold s at n area out s' area' shown') e w.told

    pub read_fits : left ≤ length s'
    read_fits = omega (arith, reading.room)

    pub going_read : {m : ℕ} {s'' : List ℕ} → More s' left m s'' → Going s'' 0 m area' out' shown' s₀ area₀ out₀ shown₀
    going_read {m} {s''} v =
        let b : WindowReady s' 0 0 area' out' shown' = again 0 0 (omega arith) (omega arith) in record {
          ready = record { order = omega arith; within = v.within; wide = rw v.size b.wide; narrow = rw v.size b.narrow; long = b.long; print = b.print };
          kept = record { window = v.size ∙ both.window; size = both.size; lent = both.lent; shows = both.shows };
        }

pub ruleset going = (more_read, going_starts, print_fits, going_answered, read_fits, going_read)
