-- What a line's calls do, for any lawful layout, from what they do to its store. Assumes nothing.
use Rattle.std.specs.Prelude.{◌≡◌, ℕ, ◌+◌, ◌<◌, ◌≤◌, Bool, true, false, cond, ◌&&◌, leb, List, [], ◌∷◌, ◌++◌, length, take, drop, nat_le, refl}
use Rattle.std.proofs.Common.{sym, ap, ◌∙◌, inl, arith, length-append}
use Rattle.std.proofs.lemmas.List.{take_at, drop_at, length-drop, append-nil}
use Rattle.std.proofs.lemmas.Bool.{and_parts, leb-true, cond-true, cond-false}
use Rattle.paths.specs.Meaning.{Sized, Each, Added, Left, Handed}
use Rattle.lines.specs.declared.store.Store.{Store}
use Rattle.lines.specs.Layout.{Layout, Lawful, holds, holds_all, packed, occupied}
use Rattle.lines.specs.Line.{LinePuts, LineTakes, keeps}
use Rattle.lines.specs.Stored.{memory_of, waiting_in, oldest_in, seen_in, KeptIn, fit, laid_at, Offered, CutOff}
use Rattle.lines.specs.Laying.{laid_long, moved_long}
use Rattle.lines.specs.Holding.{Holds, Oldest, holding, keeping, strings_are, few_held, one_added, none_added, one_removed, oldest, oldest_of, first_is}

pub sized_one : (l : Layout) (s : List ℕ) → holds l s ≡ true → Sized s
sized_one l s h =
    let k = (and_parts (nat_le 1 (length s) && nat_le (length s) 256) (l.plain s) h).0 in
    let e = and_parts (nat_le 1 (length s)) (nat_le (length s) 256) k in
    record { some = leb-true 1 (length s) e.0; most = leb-true (length s) 256 e.1 }

pub each_sized : (l : Layout) (ss : List (List ℕ)) → holds_all l ss ≡ true → Each Sized ss
each_sized l [] h = tt
each_sized l (s ∷ ss) h = let e = and_parts (holds l s) (holds_all l ss) h in (sized_one l s e.0, each_sized l ss e.1)

-- The strings that wait in a store of a line have 1 to 256 octets.
pub waiting_sized : (l : Layout) (a : Store) → KeptIn l a → Each Sized (seen_in l a).waiting
waiting_sized l a kept = each_sized l (waiting_in l a) kept.held

one_or_none : (t : Bool) (before : List (List ℕ)) (s : List ℕ) (after : List (List ℕ)) → after ≡ cond t (before ++ s ∷ []) before → Added before s after
one_or_none true before s after e = record { copies = s ∷ []; joined = e; each = (inl refl, tt) }
one_or_none false before s after e = record { copies = []; joined = e ∙ sym (append-nil before); each = tt }

-- A put that was served: what the line keeps, what it did precisely, and what that means.
pub record PutServed (l : Layout) (a : Store) (s : List ℕ) (b : Store) : Type 0 where
  pub kept : KeptIn l b
  pub exact : LinePuts l (seen_in l a) s (seen_in l b)
  pub meaning : Added (seen_in l a).waiting s (seen_in l b).waiting

-- A take that was served.
pub record TakeServed (l : Layout) (a : Store) (buffer : List ℕ) (b : Store) (buffer' : List ℕ) (n : ℕ) : Type 0 where
  pub kept : KeptIn l b
  pub exact : Handed LineTakes (seen_in l a) buffer (seen_in l b) buffer' n
  pub meaning : Handed Left (seen_in l a).waiting buffer (seen_in l b).waiting buffer' n

module _ (l : Layout) (L : Lawful l) (a : Store) (kept : KeptIn l a) where
  now_held : Holds l a (waiting_in l a)
  now_held = holding l L a kept

  -- There are fewer strings than octets in use and one more.
  pub room_to_count : (n : ℕ) → 1 ≤ n → a.count < a.used + n
  room_to_count n h = omega (arith, few_held l L a (waiting_in l a) now_held)

  -- What the line keeps is what fits in the store.
  keeps_is : (s : List ℕ) → l.plain s ≡ true → keeps l (seen_in l a) s ≡ fit a (length (l.head s) + length s)
  keeps_is s p =
      let total : occupied l (waiting_in l a) + (l.size + length s) ≡ a.used + (length (l.head s) + length s) = omega (arith, now_held.uses, L.head_long s) in
      ap (λ (x : Bool). x && nat_le (occupied l (waiting_in l a) + (l.size + length s)) (length (memory_of a))) p ∙ ap (λ (n : ℕ). leb n (length (memory_of a))) total

  module _ (s : List ℕ) (b : Store) (h : holds l s ≡ true) (o : Offered (l.head s) s a b) where
    holds_after : (t : Bool) → fit a (length (l.head s) + length s) ≡ t → Holds l b (cond t (waiting_in l a ++ s ∷ []) (waiting_in l a)) × (length (memory_of b) ≡ length (memory_of a))
    holds_after true f =
        let n = length (l.head s) + length s in
        let octets = o.octets ∙ cond-true (fit a n) (laid_at a.used (l.head s) s (memory_of a)) (memory_of a) f in
        let used : b.used ≡ a.used + (l.size + length s) = omega (arith, o.used ∙ cond-true (fit a n) (a.used + n) a.used f, L.head_long s) in
        let count = o.count ∙ cond-true (fit a n) (a.count + 1) a.count f in
        let fits = leb-true (a.used + n) (length (memory_of a)) f in
        (one_added l L a b (waiting_in l a) s (drop (a.used + n) (memory_of a)) now_held h octets used count, ap length octets ∙ laid_long a.used (l.head s) s (memory_of a) fits)
    holds_after false f =
        let n = length (l.head s) + length s in
        let octets = o.octets ∙ cond-false (fit a n) (laid_at a.used (l.head s) s (memory_of a)) (memory_of a) f in
        (none_added l L a b (waiting_in l a) now_held octets (o.used ∙ cond-false (fit a n) (a.used + n) a.used f) (o.count ∙ cond-false (fit a n) (a.count + 1) a.count f), ap length octets)

    pub put_served : PutServed l a s b
    put_served =
        let plain = (and_parts (nat_le 1 (length s) && nat_le (length s) 256) (l.plain s) h).1 in
        let t = fit a (length (l.head s) + length s) in
        let after = holds_after t refl in
        let joins = strings_are l L b (cond t (waiting_in l a ++ s ∷ []) (waiting_in l a)) after.0 in
        record {
          kept = keeping l L b (cond t (waiting_in l a ++ s ∷ []) (waiting_in l a)) after.0;
          exact = record {
            room = after.1;
            waiting = joins ∙ ap (λ (x : Bool). cond x (waiting_in l a ++ s ∷ []) (waiting_in l a)) (sym (keeps_is s plain));
          };
          meaning = one_or_none t (waiting_in l a) s (waiting_in l b) joins;
        }

  -- The oldest string, and what holds of it.
  module _ (some : 1 ≤ a.count) where
    old : Oldest l L a
    old = oldest_of l L a kept some

    pub first_long : l.first (memory_of a) ≡ length (oldest_in l a)
    first_long = first_is l L a (oldest_in l a) old.others old.all

    pub oldest_sized : Sized (oldest_in l a)
    oldest_sized = (each_sized l (oldest_in l a ∷ old.others) old.all.held).0

    -- It lies within the octets in use.
    pub oldest_fits : l.size + length (oldest_in l a) ≤ a.used
    oldest_fits = omega (arith, old.all.uses)

    pub oldest_opens : take l.size (memory_of a) ≡ l.head (oldest_in l a)
    oldest_opens =
        let s = oldest_in l a in
        ap (take l.size) (oldest l L a s old.others old.all) ∙ take_at (l.head s) (s ++ (packed l old.others ++ old.all.behind)) l.size (L.head_long s)

    pub take_served : (b : Store) (s buffer : List ℕ) → s ≡ oldest_in l a → CutOff (l.size + length s) a b → 256 ≤ length buffer → TakeServed l a buffer b (s ++ drop (length s) buffer) (length s)
    take_served b s buffer e cut room =
        let n = length s in
        let octets : l.size + n ≡ l.size + length (oldest_in l a) = ap (λ (x : List ℕ). l.size + length x) e in
        let after = one_removed l L a b (l.size + n) (oldest_in l a) old.others (take (l.size + n) (take a.used (memory_of a)) ++ drop a.used (memory_of a)) old.all octets cut.octets cut.used cut.count in
        let left = strings_are l L b old.others after in
        let was = strings_are l L a (oldest_in l a ∷ old.others) old.all in
        let front : take n (s ++ drop n buffer) ≡ s = take_at s (drop n buffer) n refl in
        let waits : waiting_in l a ≡ take n (s ++ drop n buffer) ∷ waiting_in l b = was ∙ ap (λ (x : List (List ℕ)). oldest_in l a ∷ x) (sym left) ∙ ap (λ (x : List ℕ). x ∷ waiting_in l b) (sym (front ∙ e)) in
        let behind : drop n (s ++ drop n buffer) ≡ drop n buffer = drop_at s (drop n buffer) n refl in
        let count : n ≤ 256 = omega (arith, ap length e, oldest_sized.most) in
        let size : length (s ++ drop n buffer) ≡ length buffer = omega (arith, length-append s (drop n buffer), length-drop n buffer) in
        record {
          kept = keeping l L b old.others after;
          exact = record {
            room = room;
            count = count;
            taken = record { room = ap length cut.octets ∙ moved_long a.used (l.size + n) (memory_of a); waiting = waits };
            behind = behind;
            size = size;
          };
          meaning = record { room = room; count = count; taken = record { dropped = []; next = waits }; behind = behind; size = size };
        }
