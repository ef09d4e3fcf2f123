pub mod ClauseCores
