-- The worked cluster that begins with views, computed.
use Rattle.std.proofs.Common.{refl}
use Rattle.std.specs.Prelude.{codes}
use Rattle.std.proofs.lemmas.Bool.{leb-true}
use Rattle.silo_address.specs.Silo.{IsSilo}
use Rattle.silo_address.proofs.SiloLaws.{Decides-is_silo}
use Rattle.directory_rules.specs.Worked.{silo_c}
use Rattle.process_deployment.specs.Begun.{BegunCluster}
use Rattle.process_deployment.proofs.Worked.{all_opened, a, b, line, place, said_so}

c : IsSilo silo_c
c = (Decides-is_silo silo_c).0 refl

pub begun_cluster : BegunCluster
unfolding all_opened
begun_cluster = record {
  may = (
    (a, place 0 refl),
    (
      (a, line (codes "joined 1 10.0.0.1:1000@1 0") refl, λ takes makes. refl, tt),
      (
        (a, line (codes "see 1") refl, tt, tt),
        (
          (
            a,
            line (codes "letter 10.0.0.1:1000@1 10.0.0.1:1000@1 1 query 0+4294967296") refl,
            λ own joined. said_so _ _ 2 (codes "letter 10.0.0.1:1000@1 10.0.0.1:1000@1 1 query 0+4294967296") refl refl,
            tt,
          ),
          (
            (
              a,
              line (codes "letter 10.0.0.1:1000@1 10.0.0.1:1000@1 1 report 0+4294967296 last") refl,
              λ own joined. said_so _ _ 4 (codes "letter 10.0.0.1:1000@1 10.0.0.1:1000@1 1 report 0+4294967296 last") refl refl,
              tt,
            ),
            (
              (b, place 1000 refl),
              (
                (b, line (codes "view 1 10.0.0.1:1000@1:active:0") refl, λ m takes. (leb-true 1 2 refl, takes), tt),
                (
                  (b, line (codes "view 1 10.0.0.1:1000@1:active:0") refl, λ m takes. absurd (cc takes), tt),
                  (
                    (b, line (codes "joined 1 10.0.0.1:1000@1 0") refl, λ takes makes. refl, tt),
                    (
                      (b, line (codes "joined 2 10.0.0.2:1000@1 token=b1 1000") refl, λ takes makes. refl, tt),
                      (
                        (b, line (codes "see 2") refl, tt, tt),
                        (
                          (c, place 2000 refl),
                          (
                            (c, line (codes "view 3 10.0.0.3:1000@1:active:2000") refl, λ m takes. absurd (cc takes), tt),
                            (
                              (
                                c,
                                line (codes "view 2 10.0.0.2:1000@1:active:1000 10.0.0.1:1000@1:active:0") refl,
                                λ m takes. (leb-true 2 3 refl, takes),
                                tt,
                              ),
                              (
                                (c, line (codes "joined 3 10.0.0.3:1000@1 2000") refl, λ takes makes. refl, tt),
                                (
                                  (c, line (codes "see 3") refl, tt, tt),
                                  tt,
                                ),
                              ),
                            ),
                          ),
                        ),
                      ),
                    ),
                  ),
                ),
              ),
            ),
          ),
        ),
      ),
    ),
  );
  wrote = refl;
}
