-- What is said is queued, in order, and nothing after the end.
use Rattle.std.proofs.Common.{◌≡◌, ◌||◌, ℕ, Bool, true, false, List, [], ◌∷◌, ◌++◌, refl, sym, ap, subst, ◌∙◌, append_assoc}
use Rattle.std.proofs.lemmas.Bool.{false≢true}
use Rattle.vesgrauf_queue.specs.declared.ending.Ending.{Ending}
use Rattle.vesgrauf_queue.specs.declared.ending.Ending.TheVariants.{Open}
use Rattle.vesgrauf_queue.specs.State.{State, waiting}
use Rattle.vesgrauf_queue.specs.Steps.{Step, Queues, Refuses, Finishes, Resets, Puts, PutsReset, Acknowledges, Tells, Leads, IsNew, IsPut}
use Rattle.vesgrauf_queue.specs.Runs.{queued, put, was_reset}
use Rattle.vesgrauf_queue.specs.declared.config.QueueConfig.{QueueConfig}
use Rattle.vesgrauf_queue.proofs.RunLemmas.{tracks, starts}
use Rattle.vesgrauf_stream.specs.declared.writing.Writing.{Writing}
use Rattle.vesgrauf_stream.specs.Writing.{is_open, end_if}
use Rattle.vesgrauf_stream.specs.Said.{wire_of, Call, Says, Ends, Cuts, Turns, Takes, steps_of, is_taking, Calls, CallsAll, all_steps, said_in, all_wire, is_end, has_end}

-- ---- steps

leads_joined : (xs ys : List Step) (s m t : State) → Leads xs s m → Leads ys m t → Leads (xs ++ ys) s t
leads_joined [] ys s m t same l = subst (λ (x : State). Leads ys x t) same l
leads_joined (x ∷ xs) ys s m t l k = (l.0, l.1, leads_joined xs ys l.0 m t l.2 k)

queued_joined : (xs ys : List Step) → queued (xs ++ ys) ≡ queued xs ++ queued ys
queued_joined [] ys = refl
queued_joined (Queues bytes room ∷ xs) ys = ap (λ q. bytes ++ q) (queued_joined xs ys) ∙ sym (append_assoc bytes (queued xs) (queued ys))
queued_joined (Refuses ∷ xs) ys = queued_joined xs ys
queued_joined (Finishes ∷ xs) ys = queued_joined xs ys
queued_joined (Resets code size ∷ xs) ys = queued_joined xs ys
queued_joined (Puts bytes fin ∷ xs) ys = queued_joined xs ys
queued_joined (PutsReset code size ∷ xs) ys = queued_joined xs ys
queued_joined (Acknowledges n ∷ xs) ys = queued_joined xs ys
queued_joined (Tells ∷ xs) ys = queued_joined xs ys

-- ---- calls

all_lead : (calls : List Call) (w v : Writing) → CallsAll calls w v → Leads (all_steps calls) w.queue v.queue
all_lead [] w v same = ap (λ (x : Writing). x.queue) same
all_lead (call ∷ calls) w v all = leads_joined (steps_of call) (all_steps calls) w.queue all.0.queue v.queue all.1.queue (all_lead calls all.0 v all.2)

-- a step of QUIC queues nothing
taking_queues : (step : Step) → is_taking step ≡ true → queued (step ∷ []) ≡ []
taking_queues (Queues bytes room) is = absurd (false≢true is)
taking_queues Finishes is = refl
taking_queues (Resets code size) is = refl
taking_queues Refuses is = refl
taking_queues (Puts bytes fin) is = refl
taking_queues (PutsReset code size) is = refl
taking_queues (Acknowledges n) is = refl
taking_queues Tells is = refl

end_queues : (fin : Bool) → queued (end_if fin) ≡ []
end_queues true = refl
end_queues false = refl

-- the bytes that calls queue are those that say it
all_queued : (calls : List Call) (w v : Writing) → CallsAll calls w v → queued (all_steps calls) ≡ all_wire calls
all_queued [] w v all = refl
all_queued (Says said room fin ∷ calls) w v all =
    ap (λ q. wire_of said ++ q)
    (queued_joined (end_if fin) (all_steps calls) ∙ ap (λ q. q ++ queued (all_steps calls)) (end_queues fin) ∙ all_queued calls all.0 v all.2)
all_queued (Ends ∷ calls) w v all = all_queued calls all.0 v all.2
all_queued (Cuts code size ∷ calls) w v all = all_queued calls all.0 v all.2
all_queued (Turns ∷ calls) w v all = all_queued calls all.0 v all.2
all_queued (Takes step ∷ calls) w v all =
    queued_joined (step ∷ []) (all_steps calls)
    ∙ ap (λ q. q ++ queued (all_steps calls)) (taking_queues step all.1.half.0)
    ∙ all_queued calls all.0 v all.2

pub said_whole : (config : QueueConfig) (calls : List Call) (w v : Writing) → IsNew config w.queue → CallsAll calls w v → was_reset (all_steps calls) ≡ false
    → all_wire calls ≡ put (all_steps calls) ++ waiting v.queue
said_whole config calls w v new all none =
    sym (all_queued calls w v all)
    ∙ ap (λ q. q ++ queued (all_steps calls)) (sym new.waits)
    ∙ tracks (all_steps calls) w.queue v.queue (all_lead calls w v all) none

pub said_start : (config : QueueConfig) (calls : List Call) (w v : Writing) → IsNew config w.queue → CallsAll calls w v
    → (rest : List ℕ) × (all_wire calls ≡ (put (all_steps calls) ++ waiting v.queue) ++ rest)
said_start config calls w v new all =
    let h = starts (all_steps calls) w.queue v.queue (all_lead calls w v all) in
    (h.0, sym (all_queued calls w v all) ∙ ap (λ q. q ++ queued (all_steps calls)) (sym new.waits) ∙ h.1)

-- ---- the end

not_open : {e : Ending} → is_open e ≡ false → e ≡ Open → {A : Type 0} → A
not_open none e = absurd (false≢true (sym none ∙ ap is_open e))

closed_put : (s m : State) (bytes : List ℕ) (fin : Bool) → IsPut s bytes fin m → is_open s.ending ≡ false → is_open m.ending ≡ false
closed_put s m bytes true p none = ap is_open p.ending
closed_put s m bytes false p none = ap is_open p.ending ∙ none

-- a stream that is over stays so
stays_closed : (xs : List Step) (s t : State) → Leads xs s t → is_open s.ending ≡ false → is_open t.ending ≡ false
stays_closed [] s t l none = ap (λ (x : State). is_open x.ending) l ∙ none
stays_closed (Queues bytes room ∷ xs) s t l none = not_open none l.1.from
stays_closed (Refuses ∷ xs) s t l none = not_open none l.1.from
stays_closed (Finishes ∷ xs) s t l none = not_open none l.1.from
stays_closed (Resets code size ∷ xs) s t l none = stays_closed xs l.0 t l.2 (ap is_open l.1.ending)
stays_closed (Puts bytes fin ∷ xs) s t l none = stays_closed xs l.0 t l.2 (closed_put s l.0 bytes fin l.1 none)
stays_closed (PutsReset code size ∷ xs) s t l none = stays_closed xs l.0 t l.2 (ap is_open l.1.ending)
stays_closed (Acknowledges n ∷ xs) s t l none = stays_closed xs l.0 t l.2 (ap is_open l.1.ending ∙ none)
stays_closed (Tells ∷ xs) s t l none = not_open none l.1.from

over_says : (calls : List Call) (w v : Writing) → CallsAll calls w v → is_open w.queue.ending ≡ false → said_in calls ≡ []
over_says [] w v all none = refl
over_says (Says said room fin ∷ calls) w v all none = not_open none all.1.queue.1.from
over_says (Ends ∷ calls) w v all none = over_says calls all.0 v all.2 (stays_closed (Finishes ∷ []) w.queue all.0.queue all.1.queue none)
over_says (Cuts code size ∷ calls) w v all none = over_says calls all.0 v all.2 (stays_closed (Resets code size ∷ []) w.queue all.0.queue all.1.queue none)
over_says (Turns ∷ calls) w v all none = over_says calls all.0 v all.2 (stays_closed [] w.queue all.0.queue all.1.queue none)
over_says (Takes step ∷ calls) w v all none = over_says calls all.0 v all.2 (stays_closed (step ∷ []) w.queue all.0.queue all.1.queue none)

-- one of the calls ends the stream
ends_it : (call : Call) (w v : Writing) → Calls call w v → is_end call ≡ true → is_open v.queue.ending ≡ false
ends_it (Says said room true) w v does is =
    let l = does.queue.2 in
    ap (λ (x : State). is_open x.ending) l.2 ∙ ap is_open l.1.ending
ends_it (Says said room false) w v does is = absurd (false≢true is)
ends_it Ends w v does is = ap (λ (x : State). is_open x.ending) does.queue.2 ∙ ap is_open does.queue.1.ending
ends_it (Cuts code size) w v does is = ap (λ (x : State). is_open x.ending) does.queue.2 ∙ ap is_open does.queue.1.ending
ends_it Turns w v does is = absurd (false≢true is)
ends_it (Takes step) w v does is = absurd (false≢true is)

over_by : (b c : Bool) → {A : Type 0} → (b || c) ≡ true → (b ≡ true → A) → (b ≡ false → c ≡ true → A) → A
over_by true c is f g = f refl
over_by false c is f g = g refl is

all_end : (calls : List Call) (w v : Writing) → CallsAll calls w v → has_end calls ≡ true → is_open v.queue.ending ≡ false
all_end [] w v all is = absurd (false≢true is)
all_end (call ∷ calls) w v all is =
    over_by (is_end call) (has_end calls) is
    (λ this. stays_closed (all_steps calls) all.0.queue v.queue (all_lead calls all.0 v all.2) (ends_it call w all.0 all.1 this))
    (λ not others. all_end calls all.0 v all.2 others)

pub nothing_after : (calls more : List Call) (w m v : Writing) → CallsAll calls w m → has_end calls ≡ true → CallsAll more m v → said_in more ≡ []
nothing_after calls more w m v all is later = over_says more m v later (all_end calls w m all is)
