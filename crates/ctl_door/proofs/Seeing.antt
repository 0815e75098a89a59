-- Kinds that are taken one after the other.
use Rattle.std.proofs.Common.{◌≡◌, ◌∙◌, ℕ, List, [], ◌∷◌, ◌++◌, map, Option, Ok, refl, sym, ap, subst}
use Rattle.link_ports.specs.Traffic.{Traffic}
use Rattle.cynara_keys.specs.declared.results.Kind.{Kind}
use Rattle.wire_reading.specs.Stream.{Hears}
use Rattle.wire_fields.specs.declared.messages.Framed.{Framed}
use Rattle.wire_fields.specs.declared.operations.Heard.TheVariants.{Replies}
use Rattle.client_connection.specs.Reading.{Receives}
use Rattle.ctl_door.specs.Told.{TookBytes}
use Rattle.ctl_door.specs.Service.{agent_frame, end_frame, AreAgents, AreService}
use Rattle.ctl_door.proofs.Taking.{took_frame}

mapped_more : (kinds : List Kind) (kind : Kind)
    → map agent_frame kinds ++ agent_frame kind ∷ [] ≡ map agent_frame (kinds ++ kind ∷ [])
mapped_more [] kind = refl
mapped_more (other ∷ kinds) kind = ap (λ frames. agent_frame other ∷ frames) (mapped_more kinds kind)

-- one more kind was taken
pub took_agent : (kinds more : List Kind) (kind : Kind) (framed : Framed) (start between end : Option Traffic)
    → framed ≡ agent_frame kind → more ≡ kinds ++ kind ∷ [] → TookBytes (AreAgents kinds) start between
    → Receives Replies (Ok framed) between end → TookBytes (AreAgents more) start end
took_agent kinds more kind framed start between end is all one two =
    let frames : map agent_frame kinds ++ framed ∷ [] ≡ map agent_frame more =
    ap (λ (framed : Framed). map agent_frame kinds ++ framed ∷ []) is
    ∙ (mapped_more kinds kind ∙ sym (ap (λ (kinds : List Kind). map agent_frame kinds) all)) in
    subst (λ (frames : List Framed). TookBytes (λ bytes. Hears Replies bytes frames []) start end) frames
    (took_frame (map agent_frame kinds) framed start between end one two)

-- the counts were taken, with which the reply ends
pub took_end : (kinds : List Kind) (workers served : ℕ) (framed : Framed) (start between end : Option Traffic)
    → framed ≡ end_frame workers served → TookBytes (AreAgents kinds) start between
    → Receives Replies (Ok framed) between end → TookBytes (AreService kinds workers served) start end
took_end kinds workers served framed start between end is one two =
    subst (λ (framed : Framed). TookBytes (λ bytes. Hears Replies bytes (map agent_frame kinds ++ framed ∷ []) []) start end) is
    (took_frame (map agent_frame kinds) framed start between end one two)
