-- The pairs are the digits, two by two.
use Rattle.std.proofs.Common.{rules, ◌≡◌, ◌++◌, ◌∷◌, ◌<◌, [], length, get_or, ap, arith, below_more, length-append}
use Rattle.std.proofs.lemmas.List.{get_or_push, get_or_append_left}
use Rattle.recordings.specs.Recorded.{string_of}
use Rattle.recordings.proofs.Strings.{pair_at}
use Rattle.recordings.proofs.string.RecordedString.decode.Goals as goal

pub returns-in_err-octet : goal.returns-in_err-octet
returns-in_err-octet c =
    let i = c.loop-high.high-index in
    rw c.from_residual.ensures
    (λ string is.
    let (high, low) = pair_at c.args.digits.now c.as_chunks.result.0.now i c.as_chunks.ensures.front (omega (arith, c.as_chunks.ensures.front_len)) in
    c.in_err-octet.ensures (get_or string i 0) (rw (high, low) (is.spelled i (omega (arith, is.long)))))

pub loop-high-preserved : goal.loop-high-preserved
loop-high-preserved c =
    let before = string_of c.loop-high.self in
    let pushed : string_of c.push.new.self ≡ before ++ (c.in_ok-octet.octet ∷ []) = search rules in
    let (long, short, spelled) = c.loop-high.invariant in (
      omega (arith, ap length pushed, length-append before (c.in_ok-octet.octet ∷ [])),
      search rules,
      below_more _ _ (λ k below. let fits : k < length before = omega arith in rw (pushed, get_or_append_left) (spelled k below))
          (rw (pushed, get_or_push before c.in_ok-octet.octet 0 _ long) c.in_ok-octet.ensures),
    )

pub returns : goal.returns
returns c =
    record {
      short = c.loop-high.invariant.1;
      long = omega (arith, c.as_chunks.ensures.front_len, c.as_chunks.ensures.back_len);
      spelled = λ i below.
          let (high, low) = pair_at c.args.digits.now c.as_chunks.result.0.now i c.as_chunks.ensures.front (omega (arith, c.as_chunks.ensures.front_len)) in
          rw (← high, ← low) (c.loop-high.invariant.2 i (omega arith));
    }
