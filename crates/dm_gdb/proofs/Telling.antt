-- What is sent in a conversation.
use Rattle.std.proofs.Common.{◌≡◌, ℕ, ◌&&◌, true, false, List, [], ◌++◌, length, Result, Ok, Err, OnOk, sym, ap, subst, ◌∙◌, arith, append-nil, append_assoc, Some, None}
use Rattle.std.proofs.Math.Nat.{max-eq_left, max-eq_right}
use Rattle.std.proofs.lemmas.Bool.Decides.{nat_tests}
use Rattle.std.specs.Prelude.{nat_lt, if◌then◌else◌, max}
use Rattle.dm_requests.specs.declared.packets.received.Received.{Received}
use Rattle.dm_requests.specs.declared.packets.received.Received.TheVariants as heard
use Rattle.dm_requests.specs.packets.Frames.{frame_of}
use Rattle.dm_requests.specs.packets.Reading.{Reading, after_byte, received}
use Rattle.dm_requests.specs.Requests.{request_of}
use Rattle.dm_requests.specs.declared.request.Request.{Request}
use Rattle.dm_gdb.specs.declared.replies.Reply.{Reply}
use Rattle.dm_gdb.specs.declared.replies.Reply.TheVariants as reply
use Rattle.dm_gdb.specs.Connections.{Connected, Hears, Obeys, Takes, receipt, all_shown, console_packet, is_kill, makes_steps, packet_of, replied, with_last, kills, stops, answers, interrupted, too_long, obeyed, incomplete, complete}
use Rattle.dm_gdb.specs.Servers.{Served, PutsConsole, Replies, console_text}

-- there was output that was not sent
pub some_console : (s t : Served) (text : List ℕ) → PutsConsole s [] true text t → (console_packet s ≡ frame_of text) ×
    (all_shown s ≡ t)
some_console s t text h =
    let some : nat_lt s.shown (length s.history.machine.console.output) ≡ true = grind (h.0, arith, nat_tests) in
    let whole : max s.shown (length s.history.machine.console.output) ≡ length s.history.machine.console.output =
    max-eq_right (omega (arith, h.0)) in (
      ap (λ b. if b then frame_of (console_text s) else []) some ∙ ap frame_of (sym h.1),
      ap (λ n. record s { shown = n }) whole ∙ sym h.2,
    )

-- there was none
pub no_console : (s t : Served) (text : List ℕ) → PutsConsole s [] false text t → (console_packet s ≡ []) ×
    (all_shown s ≡ t)
no_console s t text h =
    let none : nat_lt s.shown (length s.history.machine.console.output) ≡ false = grind (h.0, arith, nat_tests) in (
      ap (λ b. if b then frame_of (console_text s) else []) none,
      ap (λ n. record s { shown = n }) (max-eq_left h.0) ∙ sym h.2,
    )

-- two facts of a result's value are a third one
pub on_ok_both : {A E : Type 0} → (r : Result A E) (P Q R : Type 0) → (P → Q → R) → OnOk r P → OnOk r Q → OnOk r R
on_ok_both (Ok x) P Q R f h k = f h k
on_ok_both (Err e) P Q R f h k = tt

pub on_ok_one : {A E : Type 0} → (r : Result A E) (P R : Type 0) → (P → R) → OnOk r P → OnOk r R
on_ok_one (Ok x) P R f h = f h
on_ok_one (Err e) P R f h = tt

-- a request that ends the conversation
pub killed : (a s : Connected) (most : ℕ) (r : Request) → a ≡ s → is_kill r ≡ true →
    Obeys most s r [] (record a { over = true })
killed a s most r e h = subst (λ (x : Connected). Obeys most x r [] (record a { over = true })) e (kills h)

-- a way to go on after the debugger wanted a stop
pub stopped : (a s d : Connected) (most : ℕ) (r : Request) (out more : List ℕ) → a ≡ s → is_kill r ≡ false →
    (s.stopping && makes_steps r) ≡ true
    → more ≡ out ++ packet_of (reply.Signal 2) → d ≡ with_last (record a { stopping = false })
    (packet_of (reply.Signal 2))
    → (x : List ℕ) × (more ≡ out ++ x) × Obeys most s r x d
stopped a s d most r out more e other wanted sent is = (
  packet_of (reply.Signal 2),
  sent,
  subst (λ (x : Connected). Obeys most s r (packet_of (reply.Signal 2)) x)
      (sym (is ∙ ap (λ (x : Connected). with_last (record x { stopping = false }) (packet_of (reply.Signal 2))) e))
      (stops other wanted),
)

-- a request that is answered
pub answered : (a s d : Connected) (t : Served) (most : ℕ) (r : Request) (told : Reply) (out more : List ℕ) → a ≡ s →
    is_kill r ≡ false
    → (s.stopping && makes_steps r) ≡ false → Replies a.server most r told t → more ≡ out
    ++ (console_packet t ++ packet_of told)
    → d ≡ replied (record a { server = t }) r told t → (x : List ℕ) × (more ≡ out ++ x) × Obeys most s r x d
answered a s d t most r told out more e other goes h sent is = (
  console_packet t ++ packet_of told,
  sent,
  subst (λ (x : Connected). Obeys most s r (console_packet t ++ packet_of told) x)
      (sym (is ∙ ap (λ (x : Connected). replied x r told t) e)) (answers told t other goes
      (subst (λ (x : Connected). Replies x.server most r told t) e h)),
)

-- nothing is sent
pub silent : (out : List ℕ) (P : List ℕ → Type 0) → P [] → (x : List ℕ) × (out ≡ out ++ x) × P x
silent out P h = ([], sym (append-nil out), h)

-- what was received, by what it is known to be
pub heard_as : (s d : Connected) (most : ℕ) (what known : Received) (sent : List ℕ) → what ≡ known →
    Hears most s known sent d → Hears most s what sent d
heard_as s d most what known sent e h = subst (λ (w : Received). Hears most s w sent d) (sym e) h

-- a packet
pub heard_packet : (s d : Connected) (most : ℕ) (what : Received) (payload : List ℕ) (r : Request) (sent : List ℕ) →
    what ≡ heard.Packet payload → r ≡ request_of payload
    → Obeys most s r sent d → Hears most s what sent d
heard_packet s d most what payload r sent e f h = heard_as s d most what (heard.Packet payload) sent e
    (obeyed payload sent d (subst (λ (q : Request). Obeys most s q sent d) f h))

-- a packet that is too long
pub heard_long : (s d : Connected) (most : ℕ) (what : Received) (out more : List ℕ) → what ≡ heard.TooLong → more ≡ out
    ++ packet_of (reply.Refused 1)
    → d ≡ with_last s (packet_of (reply.Refused 1)) → (x : List ℕ) × (more ≡ out ++ x) × Hears most s what x d
heard_long s d most what out more e sent is = (
  packet_of (reply.Refused 1),
  sent,
  heard_as s d most what heard.TooLong (packet_of
      (reply.Refused 1)) e (subst (λ (x : Connected). Hears most s heard.TooLong (packet_of (reply.Refused 1)) x)
      (sym is) too_long),
)

-- the debugger wants a stop
pub heard_stop : (a s : Connected) (most : ℕ) (what : Received) → a ≡ s → what ≡ heard.Interrupt →
    Hears most s what [] (record a { stopping = true })
heard_stop a s most what e is =
    heard_as s (record a { stopping = true }) most what heard.Interrupt [] is
    (subst (λ (x : Connected). Hears most x heard.Interrupt [] (record a { stopping = true })) e interrupted)

-- a byte with which something is complete
pub taken : (a s d : Connected) (m : Reading) (most byte : ℕ) (what : Received) (sent out more : List ℕ) → a ≡ s →
    received a.reading byte ≡ Some what → m ≡ after_byte a.reading byte
    → more ≡ out ++ (receipt (record a { reading = m }) what ++ sent) →
    Hears most (record a { reading = m }) what sent d → (x : List ℕ) × (more ≡ out ++ x) × Takes most s byte x d
taken a s d m most byte what sent out more e f g sent_is h = (
  receipt a what ++ sent,
  sent_is,
  subst (λ (y : Connected). Takes most y byte (receipt a what ++ sent) d) e
      (complete what sent d f (subst (λ (r : Reading). Hears most (record a { reading = r }) what sent d) g h)),
)

-- a byte with which nothing is complete
pub kept : (a s : Connected) (m : Reading) (most byte : ℕ) → a ≡ s → received a.reading byte ≡ None →
    m ≡ after_byte a.reading byte → Takes most s byte [] (record a { reading = m })
kept a s m most byte e f g =
    subst (λ (y : Connected). Takes most y byte [] (record a { reading = m })) e
    (subst (λ (r : Reading). Takes most a byte [] (record a { reading = r })) (sym g) (incomplete f))

-- what is sent after something else
pub sent_after : (out first between more x : List ℕ) → between ≡ out ++ first → more ≡ between ++ x → more ≡ out
    ++ (first ++ x)
sent_after out first between more x e f = f ∙ ap (λ (l : List ℕ). l ++ x) e ∙ append_assoc out first x
