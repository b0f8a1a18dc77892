-- The log of positions: what was sent at each, and how it grows.
-- Assumes nothing.
use Rattle.std.proofs.Common.{◌≡◌, ℕ, suc, ◌<◌, ◌≤◌, Bool, true, false, cond, eqb, ◌⊎◌, List, [], ◌∷◌, length, sym, refl, ◌∙◌, subst, subst₂, inl, inr, arith, eq-eqb, ne_eqb, eqb-true}
use mathlib.Core.List.{reverse_aux}
use mathlib.Core.Option.{Option, none, some}
use native.Mathlib.Decide.{dec_le, ℕ_discrete}
use borrow.Author.Tests.{eqb-false}
use Rattle.law.specs.Senders.{Text, Message, message, size, Course, course, number_of, numbered}

-- a log: the course whose current block stands at a position, if one does
abbrev pub Log : Type 0
Log = ℕ → Option Course

-- the log with one position more
abbrev pub put : Log → ℕ → Course → Log
put log j z q = cond (eqb q j) (some z) (log q)

pub put_here : (log : Log) (j : ℕ) (z : Course) → put log j z j ≡ some z
put_here log j z = rw (eq-eqb j j refl)

pub put_else : (log : Log) (j : ℕ) (z : Course) (q : ℕ) → (q ≡ j → ⊥) → put log j z q ≡ log q
put_else log j z q f = rw (ne_eqb q j f)

pub put_split : (log : Log) (j : ℕ) (z y : Course) (q : ℕ) → put log j z q ≡ some y → ((q ≡ j) × (z ≡ y)) ⊎ ((q ≡ j → ⊥) × (log q ≡ some y))
put_split log j z y q e = go (eqb q j) refl e
  where
    go : (t : Bool) → eqb q j ≡ t → cond t (some z) (log q) ≡ some y → ((q ≡ j) × (z ≡ y)) ⊎ ((q ≡ j → ⊥) × (log q ≡ some y))
    go true f u = let k : z ≡ y = cc in inl (eqb-true q j f, k)
    go false f u = inr (eqb-false q j f, u)

-- the message that a course is of
abbrev pub whole : Course → Message
whole (course n l ds t us) = message l (reverse_aux ds (t ∷ us))

-- the least number that may stand after a position: a last block's message is over
abbrev pub top : Option Course → ℕ
top none = 1
top (some (course n l ds t [])) = suc n
top (some (course n l ds t (u ∷ us))) = n

-- how the entry at a position may follow the one at the position before
pub data Chain : Option Course → Option Course → Type 0 where
  gap : {o : Option Course} → Chain o none
  after_gap : {n : ℕ} {l t : Text} {us : List Text} → Chain none (some (course n l [] t us))
  after_end : {m n : ℕ} {k l s t : Text} {ds us : List Text} → Chain (some (course m k ds s [])) (some (course n l [] t us))
  goes_on : {n : ℕ} {l s t : Text} {ds us : List Text} → Chain (some (course n l ds s (t ∷ us))) (some (course n l (s ∷ ds) t us))

-- a course at its first block
abbrev pub First : Course → Type 0
First (course n l [] t us) = Unit {0}
First (course n l (s ∷ ds) t us) = ⊥

pub chain_first : {z : Course} → Chain none (some z) → First z
chain_first after_gap = tt

-- a position is unused or a last block's
pub data Over : Option Course → Type 0 where
  unused : Over none
  over : {n : ℕ} {l t : Text} {ds : List Text} → Over (some (course n l ds t []))

-- a first block comes after a position that is unused or a last block's
pub chain_over : {o : Option Course} {z : Course} → Chain o (some z) → First z → Over o
chain_over after_gap f = unused
chain_over after_end f = over
chain_over goes_on f = absurd f

-- a following block comes right after the block before it
pub chain_back : {o : Option Course} {n : ℕ} {l s t : Text} {ds us : List Text} → Chain o (some (course n l (s ∷ ds) t us)) → o ≡ some (course n l ds s (t ∷ us))
chain_back goes_on = refl

-- a part is open after a position
abbrev pub LeftOpen : Option Course → Type 0
LeftOpen none = ⊥
LeftOpen (some (course n l ds t [])) = ⊥
LeftOpen (some (course n l ds t (u ∷ us))) = Unit {0}

pub over_shut : {o : Option Course} → Over o → LeftOpen o → ⊥
over_shut unused w = w
over_shut over w = w

-- a last block of message n stands in the log
pub record Lasted (log : Log) (n : ℕ) : Type 0 where
  pub label : Text
  pub before : List Text
  pub text : Text
  pub place : ℕ
  pub is : log place ≡ some (course n label before text [])

-- the facts of a log up to position c, over a ring of N, messages g of which k is the last begun, and a the last
-- acknowledged position
pub record Logged (N : ℕ) (g : List Message) (k a c : ℕ) (log : Log) : Type 0 where
  pub future : (q : ℕ) → c < q → log q ≡ none
  pub past : (q : ℕ) (z : Course) → log q ≡ some z → N ≤ q
  pub chain : (q : ℕ) → Chain (log q) (log (suc q))
  pub near : (q n : ℕ) (l s t : Text) (ds us : List Text) → log q ≡ some (course n l (s ∷ ds) t us) → q ≤ suc a
  pub risen : (q j : ℕ) (z : Course) → q < j → log j ≡ some z → top (log q) ≤ number_of z
  pub texts : (q : ℕ) (z : Course) → log q ≡ some z → numbered g (number_of z) ≡ some (whole z)
  pub begun : (q : ℕ) (z : Course) → log q ≡ some z → number_of z ≤ k
  pub sizes : (n : ℕ) (m : Message) → numbered g n ≡ some m → size m ≤ 16
  pub known : k ≤ length g

module _ {N : ℕ} {g : List Message} {k a c : ℕ} {log : Log} (L : Logged N g k a c log) where
  -- an entry is not in the future
  pub no_later : (q : ℕ) (z : Course) → log q ≡ some z → q ≤ c
  no_later q z e = elim (dec_le (suc c) q) [
    | yes l ↦ let f = L.future q l in let w : ◌≡◌ {A = ℕ} 0 1 = cc in absurd (omega arith)
    | no l ↦ omega arith
  ]

  -- acknowledgments go on
  pub logged_on : (b : ℕ) → a ≤ b → Logged N g k b c log
  logged_on b l = record {
    future = L.future;
    past = L.past;
    chain = L.chain;
    near = λ q n m s t ds us e. let f = L.near q n m s t ds us e in omega arith;
    risen = L.risen;
    texts = L.texts;
    begun = L.begun;
    sizes = L.sizes;
    known = L.known;
  }

  -- a new block at position suc b, which follows what stands at b
  pub logged_new : (b j : ℕ) (z : Course) → c ≤ b → N ≤ suc b → Chain (log b) (some z) → (b ≡ a ⊎ Chain none (some z)) →
      ((q : ℕ) → q ≤ c → top (log q) ≤ number_of z) → 1 ≤ number_of z →
      numbered g (number_of z) ≡ some (whole z) → number_of z ≤ j → k ≤ j → j ≤ length g →
      Logged N g j a (suc b) (put log (suc b) z)
  logged_new b j z cb nb ch first rise one text new old within = record {
    future = λ q l. put_else log (suc b) z q (omega arith) ∙ L.future q (omega arith);
    past = λ q y e. elim (put_split log (suc b) z y q e) [
      | inl u ↦ let v = u.0 in omega arith
      | inr u ↦ L.past q y u.1
    ];
    chain = λ q. chains q;
    near = nears;
    risen = risens;
    texts = λ q y e. elim (put_split log (suc b) z y q e) [
      | inl u ↦ subst (λ (x : Course). numbered g (number_of x) ≡ some (whole x)) u.1 text
      | inr u ↦ L.texts q y u.1
    ];
    begun = λ q y e. elim (put_split log (suc b) z y q e) [
      | inl u ↦ subst (λ (x : Course). number_of x ≤ j) u.1 new
      | inr u ↦ let v = L.begun q y u.1 in omega arith
    ];
    sizes = L.sizes;
    known = within;
  }
    where
      chains : (q : ℕ) → Chain (put log (suc b) z q) (put log (suc b) z (suc q))
      chains q = elim (ℕ_discrete q b) [
        | yes e ↦ subst (λ (i : ℕ). Chain (put log (suc b) z i) (put log (suc b) z (suc i))) (sym e)
            (subst₂ Chain (sym (put_else log (suc b) z b (omega arith))) (sym (put_here log (suc b) z)) ch)
        | no f ↦ elim (ℕ_discrete q (suc b)) [
          | yes e ↦ subst (λ (w : Option Course). Chain (put log (suc b) z q) w)
              (sym (put_else log (suc b) z (suc q) (omega arith) ∙ L.future (suc q) (omega arith))) gap
          | no e ↦ subst₂ Chain (sym (put_else log (suc b) z q e)) (sym (put_else log (suc b) z (suc q) (omega arith))) (L.chain q)
        ]
      ]

      nears : (q n : ℕ) (l s t : Text) (ds us : List Text) → put log (suc b) z q ≡ some (course n l (s ∷ ds) t us) → q ≤ suc a
      nears q n l s t ds us e = elim (put_split log (suc b) z (course n l (s ∷ ds) t us) q e) [
        | inl u ↦ elim first [
          | inl v ↦ let w = u.0 in omega arith
          | inr v ↦ absurd (subst First u.1 (chain_first v))
        ]
        | inr u ↦ L.near q n l s t ds us u.1
      ]

      risens : (q i : ℕ) (y : Course) → q < i → put log (suc b) z i ≡ some y → top (put log (suc b) z q) ≤ number_of y
      risens q i y l e = elim (put_split log (suc b) z y i e) [
        | inl u ↦ subst (λ (x : Course). top (put log (suc b) z q) ≤ number_of x) u.1
            (subst (λ (w : Option Course). top w ≤ number_of z) (sym (put_else log (suc b) z q (let v = u.0 in omega arith)))
            (elim (dec_le q c) [
              | yes m ↦ rise q m
              | no m ↦ subst (λ (w : Option Course). top w ≤ number_of z) (sym (L.future q (omega arith))) one
            ]))
        | inr u ↦ subst (λ (w : Option Course). top w ≤ number_of y)
            (sym (put_else log (suc b) z q (let v = no_later i y u.1 in omega arith))) (L.risen q i y l u.1)
      ]
