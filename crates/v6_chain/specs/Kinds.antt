-- What a next-header value names.
use Rattle.std.specs.Prelude.{ℕ, List, [], ◌∷◌, ◌==◌, unwrap_or}
use Rattle.std.specs.Map.{lookup}
use Rattle.v6_chain.specs.declared.kind.Kind.{Kind}
use Rattle.v6_chain.specs.declared.kind.Kind.TheVariants.{HopByHop, Extension, Authentication, Fragment, Upper, Unknown}

-- the values that are known (IANA's registry "Assigned Internet Protocol Numbers"), an upper header with the least octets
-- of it that have to be there
abbrev pub known_headers : List (ℕ × Kind)
known_headers =
    (0, HopByHop)  -- hop-by-hop options, RFC 8200 section 4.3
    ∷ (43, Extension)  -- routing, RFC 8200 section 4.4
    ∷ (44, Fragment)  -- RFC 8200 section 4.5
    ∷ (51, Authentication)  -- RFC 4302
    ∷ (60, Extension)  -- destination options, RFC 8200 section 4.6
    ∷ (135, Extension)  -- mobility, RFC 6275
    ∷ (139, Extension)  -- host identity, RFC 7401
    ∷ (140, Extension)  -- Shim6, RFC 5533
    ∷ (4, Upper 20)  -- IPv4, RFC 791
    ∷ (6, Upper 20)  -- TCP, RFC 9293
    ∷ (17, Upper 8)  -- UDP, RFC 768
    ∷ (33, Upper 0)  -- DCCP, RFC 4340
    ∷ (41, Upper 40)  -- IPv6, RFC 8200
    ∷ (47, Upper 0)  -- GRE, RFC 2784
    ∷ (50, Upper 8)  -- ESP, RFC 4303
    ∷ (58, Upper 4)  -- ICMPv6, RFC 4443
    ∷ (59, Upper 0)  -- no next header, RFC 8200 section 4.7
    ∷ (89, Upper 0)  -- OSPF, RFC 5340
    ∷ (103, Upper 0)  -- PIM, RFC 7761
    ∷ (112, Upper 0)  -- VRRP, RFC 9568
    ∷ (115, Upper 0)  -- L2TP, RFC 3931
    ∷ (132, Upper 0)  -- SCTP, RFC 9260
    ∷ (136, Upper 0)  -- UDP-Lite, RFC 3828
    ∷ []

unfoldable pub kind_of : ℕ → Kind
kind_of value = unwrap_or (lookup (λ listed. listed == value) known_headers) Unknown
