pub mod PanelRecoveryLaws
pub mod PanelTheorem
