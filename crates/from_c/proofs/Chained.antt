-- Chained calls from C lead where the calls lead that they stand for, and C hears what they tell of these: from what holds a sound record, since each kind of call stands for its calls.
use Prim.Native.Nat.{ℕ}
use mathlib.Core.Path.{◌≡◌, refl, sym, ap, subst, ◌∙◌}
use mathlib.Core.Bool.{true, false≢true}
use mathlib.Core.List.{List, [], ◌∷◌, ◌++◌}
use lib.ListN.{length}
use Rattle.types.specs.declared.Record.{Record}
use Rattle.words.specs.Lists.{every}
use Rattle.words.proofs.Tests.{and_l, and_r}
use Rattle.paper.specs.Sizes.{array_bytes, rows_bytes}
use Rattle.paper.specs.Calls.{transacted, ticked}
use Rattle.paper.specs.History.{Call, transaction, ticks, record_after_call, record_after_calls, reached_by}
use Rattle.paper.proofs.CallKept.{call_size}
use Rattle.yawlspar.specs.Face.{packed}
use Rattle.history.specs.Run.{done}
use Rattle.history.specs.Course.{Step, sent, waited, course_of}
use Rattle.from_c.specs.Driven.{Lent, CCall, transact, tick, script, check, tick_map, script_map, call_of, calls_of, Driven, ended, calls, heard, packed_steps, told_by, own_course, told_of, InMemory, AllInMemory, is_plain}
use Rattle.from_c.specs.Holding.{Holding}
use Rattle.from_c.proofs.Leads.{Leads, leads_told, leads_on}
use Rattle.from_c.proofs.Stands.{stands}

pub driven_run : {l m : Lent} {cs : List CCall} (chain : Driven l cs m) (p : Record) → Holding l p → Leads l p (calls_of cs p) m
driven_run ended p h = record { next = p; run = done; holding = h }
driven_run (calls {l} {m} {c} {cs} g e rest) p h =
    let s = (stands l p h c g e).leads in
    leads_on s (subst (λ (q : Record). Leads g.left s.next (calls_of cs q) m) (leads_told s h) (driven_run rest s.next s.holding))

-- memory of a part's own lengths
own_course_lem : {l : Lent} {p : Record} → Holding l p → (cs : List Call) → course_of cs p (length l.array) (length l.rows) ≡ own_course cs p
own_course_lem {l} {p} h cs =
    ap (λ (n : ℕ). course_of cs p n (length l.rows)) h.array ∙ ap (λ (n : ℕ). course_of cs p (array_bytes p.part.blocks) n) h.rows

pub driven_heard : {l m : Lent} {cs : List CCall} (chain : Driven l cs m) (p : Record) → Holding l p → AllInMemory cs → heard chain ≡ told_of cs p
driven_heard ended p h few = refl
driven_heard (calls {l} {m} {c} {cs} g e rest) p h few =
    let s = stands l p h c g e in
    ap (λ (ks : List ℕ). ks ++ heard rest) (s.heard few.0 ∙ ap (told_by c) (own_course_lem h (call_of c p)))
    ∙ ap (λ (ks : List ℕ). told_by c (own_course (call_of c p) p) ++ ks) (driven_heard rest s.leads.next s.leads.holding few.1 ∙ ap (told_of cs) (leads_told s.leads h))

-- the course of some calls and then others, on a part with its own memory
courses_append : (cs ds : List Call) (p : Record) → own_course (cs ++ ds) p ≡ own_course cs p ++ own_course ds (record_after_calls cs p)
courses_append [] ds p = refl
courses_append (transaction wp i o ∷ cs) ds p =
    let q = record_after_call (transaction wp i o) p in
    let size = ap array_bytes (call_size (transaction wp i o) p) in
    ap (λ (ss : List Step). sent (transacted p (array_bytes p.part.blocks) rows_bytes wp i o) ∷ ss)
    (ap (λ (n : ℕ). course_of (cs ++ ds) q n rows_bytes) (sym size)
    ∙ courses_append cs ds q
    ∙ ap (λ (n : ℕ). course_of cs q n rows_bytes ++ own_course ds (record_after_calls cs q)) size)
courses_append (ticks n ∷ cs) ds p =
    let q = record_after_call (ticks n) p in
    let size = ap array_bytes (call_size (ticks n) p) in
    let t = ticked p (array_bytes p.part.blocks) rows_bytes n in
    ap (λ (ss : List Step). waited t (reached_by t.number n p) ∷ ss)
    (ap (λ (k : ℕ). course_of (cs ++ ds) q k rows_bytes) (sym size)
    ∙ courses_append cs ds q
    ∙ ap (λ (k : ℕ). course_of cs q k rows_bytes ++ own_course ds (record_after_calls cs q)) size)

packed_append : (ss ts : List Step) → packed_steps (ss ++ ts) ≡ packed_steps ss ++ packed_steps ts
packed_append [] ts = refl
packed_append (sent a ∷ ss) ts = ap (λ (ks : List ℕ). packed a.number a.first ∷ ks) (packed_append ss ts)
packed_append (waited t us ∷ ss) ts = ap (λ (ks : List ℕ). packed t.number t.done ∷ ks) (packed_append ss ts)

-- calls that are no scripts, with a map or without, and no checks tell the whole course
plain_by : (c : CCall) → is_plain c ≡ true → (ss : List Step) → told_by c ss ≡ packed_steps ss
plain_by (transact wp i o) h ss = refl
plain_by (tick n) h ss = refl
plain_by (script wp i ls ts o n d) h ss = absurd (false≢true h)
plain_by (check wp i ls ts o n d image) h ss = absurd (false≢true h)
plain_by (tick_map n k) h ss = refl
plain_by (script_map wp i ls ts o n d k) h ss = absurd (false≢true h)

plain_told : (cs : List CCall) (p : Record) → every is_plain cs ≡ true → told_of cs p ≡ packed_steps (own_course (calls_of cs p) p)
plain_told [] p h = refl
plain_told (c ∷ cs) p h =
    let q = record_after_calls (call_of c p) p in
    ap (λ (ks : List ℕ). ks ++ told_of cs q) (plain_by c (and_l _ _ h) (own_course (call_of c p) p))
    ∙ ap (λ (ks : List ℕ). packed_steps (own_course (call_of c p) p) ++ ks) (plain_told cs q (and_r _ _ h))
    ∙ sym (packed_append (own_course (call_of c p) p) (own_course (calls_of cs q) q))
    ∙ ap packed_steps (sym (courses_append (call_of c p) (calls_of cs q) p))

plain_small : (c : CCall) → is_plain c ≡ true → InMemory c
plain_small (transact wp i o) h = tt
plain_small (tick n) h = tt
plain_small (script wp i ls ts o n d) h = absurd (false≢true h)
plain_small (check wp i ls ts o n d image) h = absurd (false≢true h)
plain_small (tick_map n k) h = tt
plain_small (script_map wp i ls ts o n d k) h = absurd (false≢true h)

plain_all : (cs : List CCall) → every is_plain cs ≡ true → AllInMemory cs
plain_all [] h = tt
plain_all (c ∷ cs) h = (plain_small c (and_l _ _ h), plain_all cs (and_r _ _ h))

pub plain_heard : {l m : Lent} {cs : List CCall} (chain : Driven l cs m) (p : Record) → Holding l p → every is_plain cs ≡ true
    → heard chain ≡ packed_steps (course_of (calls_of cs p) p (length l.array) (length l.rows))
plain_heard {l} {m} {cs} chain p h plain =
    driven_heard chain p h (plain_all cs plain) ∙ plain_told cs p plain ∙ ap packed_steps (sym (own_course_lem h (calls_of cs p)))
